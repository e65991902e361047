-- A checkpoint has one first fault, except for the lack of memory.
use Rattle.std.proofs.Common.{◌≡◌, ◌≢◌, ℕ, zero, suc, ◌+◌, ◌<◌, ◌≤◌, Some, refl, sym, ap, ◌∙◌, subst, arith, inl, inr}
use Rattle.std.specs.Prelude.{position}
use borrow.Author.Count.{below_more}
use Rattle.std.proofs.lemmas.Bool.{cases_lt, cases_eq}
use Rattle.std.proofs.lemmas.Option.{same_Some}
use Rattle.slot_types.specs.declared.plans.DiePlan.{DiePlan}
use Rattle.plan_rules.specs.Bound.{MeetsBound}
use Rattle.page_map.specs.Placing.{HaveOwnCells}
use Rattle.page_map.specs.PlacesFaults.{IsFirstShared}
use Rattle.die_checkpoint.specs.declared.checkpoint.Checkpoint.{Checkpoint}
use Rattle.die_checkpoint.specs.declared.fault.CheckpointFault.{CheckpointFault}
use Rattle.die_checkpoint.specs.declared.fault.CheckpointFault.TheVariants as faults
use Rattle.die_checkpoint.specs.Counts.{is_overfull, is_open, open_from, is_worn, is_astray}
use Rattle.die_checkpoint.specs.Fits.{IsOfShape, IsOfPlan, AreWithin, HasOneOpen, AreUnworn, HasBlocks, ArePlaced, AreCapped, FitsButShared}
use Rattle.die_checkpoint.specs.Fits.{in_accounts, free_pages}
use Rattle.die_checkpoint.specs.Faults.{IsSecondOpen, IsFirstAbove, HasCheckpointFault}
use Rattle.die_checkpoint.proofs.Excluding.{overfull_breaks, second_breaks, worn_breaks, astray_breaks}

-- Which cause it is, and what it names

rank : CheckpointFault → ℕ
rank faults.OtherShape = 0
rank faults.BadPlan = 1
rank (faults.Overfull b) = 2
rank (faults.SecondOpen b) = 3
rank (faults.WornOut b) = 4
rank (faults.Unprogrammed p) = 5
rank (faults.AboveCap t) = 6
rank (faults.OtherSum a f) = 7
rank (faults.SharedCell p) = 8
rank faults.NoMemory = 9

names : CheckpointFault → ℕ
names (faults.Overfull b) = b
names (faults.SecondOpen b) = b
names (faults.WornOut b) = b
names (faults.Unprogrammed p) = p
names (faults.AboveCap t) = t
names (faults.OtherSum a f) = a
names (faults.SharedCell p) = p
names _ = 0

also_names : CheckpointFault → ℕ
also_names (faults.OtherSum a f) = f
also_names _ = 0

cause : ℕ → ℕ → ℕ → CheckpointFault
cause zero a b = faults.OtherShape
cause (suc zero) a b = faults.BadPlan
cause (suc (suc zero)) a b = faults.Overfull a
cause (suc (suc (suc zero))) a b = faults.SecondOpen a
cause (suc (suc (suc (suc zero)))) a b = faults.WornOut a
cause (suc (suc (suc (suc (suc zero))))) a b = faults.Unprogrammed a
cause (suc (suc (suc (suc (suc (suc zero)))))) a b = faults.AboveCap a
cause (suc (suc (suc (suc (suc (suc (suc zero))))))) a b = faults.OtherSum a b
cause (suc (suc (suc (suc (suc (suc (suc (suc zero)))))))) a b = faults.SharedCell a
cause (suc (suc (suc (suc (suc (suc (suc (suc (suc k))))))))) a b = faults.NoMemory

cause_is : (f : CheckpointFault) → cause (rank f) (names f) (also_names f) ≡ f
unfolding rank names also_names cause
cause_is faults.OtherShape = refl
cause_is faults.BadPlan = refl
cause_is (faults.Overfull b) = refl
cause_is (faults.SecondOpen b) = refl
cause_is (faults.WornOut b) = refl
cause_is (faults.Unprogrammed p) = refl
cause_is (faults.AboveCap t) = refl
cause_is (faults.OtherSum a f) = refl
cause_is (faults.SharedCell p) = refl
cause_is faults.NoMemory = refl

-- What a cause is against, and all that stands before it

abbrev Stage : DiePlan → Checkpoint → ℕ → Type 0
Stage plan c zero = IsOfShape plan c
Stage plan c (suc zero) = MeetsBound plan
Stage plan c (suc (suc zero)) = AreWithin plan.shape.pages c.blocks
Stage plan c (suc (suc (suc zero))) = HasOneOpen plan.shape.pages c.blocks
Stage plan c (suc (suc (suc (suc zero)))) = AreUnworn c.blocks
Stage plan c (suc (suc (suc (suc (suc zero))))) = ArePlaced c
Stage plan c (suc (suc (suc (suc (suc (suc zero)))))) = AreCapped plan c
Stage plan c (suc (suc (suc (suc (suc (suc (suc zero))))))) = in_accounts plan c ≡ free_pages plan c
Stage plan c (suc (suc (suc (suc (suc (suc (suc (suc k)))))))) = HaveOwnCells c.places

module _ (plan : DiePlan) (c : Checkpoint) where
  abbrev Upto : ℕ → Type 0
  Upto n = (k : ℕ) → k < n → Stage plan c k

  shape_had : IsOfShape plan c → Upto 1
  shape_had h zero lt = h
  shape_had h (suc k) lt = absurd (omega arith)

  plan_had : IsOfPlan plan c → Upto 2
  plan_had h = below_more (Stage plan c) 1 (shape_had h.shape) h.bound

  within_had : IsOfPlan plan c → AreWithin plan.shape.pages c.blocks → Upto 3
  within_had h w = below_more (Stage plan c) 2 (plan_had h) w

  open_had : IsOfPlan plan c → AreWithin plan.shape.pages c.blocks → HasOneOpen plan.shape.pages c.blocks → Upto 4
  open_had h w o = below_more (Stage plan c) 3 (within_had h w) o

  blocks_had : HasBlocks plan c → Upto 5
  blocks_had h = below_more (Stage plan c) 4 (open_had h.plan_is h.within h.one_open) h.unworn

  placed_had : HasBlocks plan c → ArePlaced c → Upto 6
  placed_had h p = below_more (Stage plan c) 5 (blocks_had h) p

  capped_had : HasBlocks plan c → ArePlaced c → AreCapped plan c → Upto 7
  capped_had h p q = below_more (Stage plan c) 6 (placed_had h p) q

  all_had : FitsButShared plan c → Upto 8
  all_had h = below_more (Stage plan c) 7 (capped_had h.blocks h.placed h.capped) h.sums

  had : (f : CheckpointFault) → HasCheckpointFault plan c f → f ≢ faults.NoMemory → Upto (rank f)
  unfolding rank
  had faults.OtherShape h other = λ k lt. absurd (omega arith)
  had faults.BadPlan h other = shape_had h.0
  had (faults.Overfull b) h other = plan_had h.0
  had (faults.SecondOpen b) h other = within_had h.0 h.1
  had (faults.WornOut b) h other = open_had h.0 h.1 h.2
  had (faults.Unprogrammed p) h other = blocks_had h.0
  had (faults.AboveCap t) h other = placed_had h.0 h.1
  had (faults.OtherSum a f) h other = capped_had h.0 h.1 h.2
  had (faults.SharedCell p) h other = all_had h.0
  had faults.NoMemory h other = absurd (other refl)

  breaks : (f : CheckpointFault) → HasCheckpointFault plan c f → f ≢ faults.NoMemory → Stage plan c (rank f) → ⊥
  unfolding rank
  breaks faults.OtherShape h other s = h s
  breaks faults.BadPlan h other s = h.1 s
  breaks (faults.Overfull b) h other s = overfull_breaks plan.shape.pages c.blocks b h.1 s
  breaks (faults.SecondOpen b) h other s = second_breaks plan.shape.pages c.blocks b h.2 s
  breaks (faults.WornOut b) h other s = worn_breaks c.blocks b h.3 s
  breaks (faults.Unprogrammed p) h other s = astray_breaks c p h.1 s
  breaks (faults.AboveCap t) h other s = omega (arith, h.2.above, s t)
  breaks (faults.OtherSum a f) h other s = h.5 (h.3 ∙ s ∙ sym h.4)
  breaks (faults.SharedCell p) h other s = omega (arith, h.1.before, s.apart p h.1.other h.1.place h.1.lies h.1.also)
  breaks faults.NoMemory h other s = other refl

  -- One of a kind

  one_second : (a b : ℕ) → IsSecondOpen plan.shape.pages c.blocks a → IsSecondOpen plan.shape.pages c.blocks b → a ≡ b
  one_second a b s t =
      let first : s.first ≡ t.first = same_Some s.first t.first (sym s.first_is ∙ t.first_is) in
      same_Some a b (sym s.second_is ∙ ap (λ (k : ℕ). open_from plan.shape.pages (k + 1) c.blocks) first ∙ t.second_is)

  one_above : (a b : ℕ) → IsFirstAbove plan.caps c.balances a → IsFirstAbove plan.caps c.balances b → a ≡ b
  one_above a b s t = elim (cases_lt a b) [
    | inl less ↦ absurd (omega (arith, s.above, t.first a less))
    | inr not_less ↦ elim (cases_lt b a) [
      | inl more ↦ absurd (omega (arith, t.above, s.first b more))
      | inr not_more ↦ omega arith
    ]
  ]

  one_shared : (a b : ℕ) → IsFirstShared c.places a → IsFirstShared c.places b → a ≡ b
  one_shared a b s t = elim (cases_lt a b) [
    | inl less ↦ absurd (omega (arith, s.before, t.first a s.other s.place less (omega (arith, s.before)) s.lies s.also))
    | inr not_less ↦ elim (cases_lt b a) [
      | inl more ↦ absurd (omega (arith, t.before, s.first b t.other t.place more (omega (arith, t.before)) t.lies t.also))
      | inr not_more ↦ omega arith
    ]
  ]

  one_of_kind : (k a b d e : ℕ) → HasCheckpointFault plan c (cause k a b) → HasCheckpointFault plan c (cause k d e) → cause k a b ≡ cause k d e
  unfolding cause
  one_of_kind zero a b d e h g = refl
  one_of_kind (suc zero) a b d e h g = refl
  one_of_kind (suc (suc zero)) a b d e h g = ap faults.Overfull (same_Some a d (sym h.1 ∙ g.1))
  one_of_kind (suc (suc (suc zero))) a b d e h g = ap faults.SecondOpen (one_second a d h.2 g.2)
  one_of_kind (suc (suc (suc (suc zero)))) a b d e h g = ap faults.WornOut (same_Some a d (sym h.3 ∙ g.3))
  one_of_kind (suc (suc (suc (suc (suc zero))))) a b d e h g = ap faults.Unprogrammed (same_Some a d (sym h.1 ∙ g.1))
  one_of_kind (suc (suc (suc (suc (suc (suc zero)))))) a b d e h g = ap faults.AboveCap (one_above a d h.2 g.2)
  one_of_kind (suc (suc (suc (suc (suc (suc (suc zero))))))) a b d e h g =
      let accounts : a ≡ d = h.3 ∙ sym g.3 in
      let free : b ≡ e = h.4 ∙ sym g.4 in
      λ i. faults.OtherSum (accounts i) (free i)
  one_of_kind (suc (suc (suc (suc (suc (suc (suc (suc zero)))))))) a b d e h g = ap faults.SharedCell (one_shared a d h.1 g.1)
  one_of_kind (suc (suc (suc (suc (suc (suc (suc (suc (suc k))))))))) a b d e h g = refl

  pub one_fault : (f g : CheckpointFault) → HasCheckpointFault plan c f → HasCheckpointFault plan c g → f ≢ faults.NoMemory → g ≢ faults.NoMemory → f ≡ g
  one_fault f g h k some also = elim (cases_lt (rank f) (rank g)) [
    | inl less ↦ absurd (breaks f h some (had g k also (rank f) less))
    | inr not_less ↦ elim (cases_lt (rank g) (rank f)) [
      | inl more ↦ absurd (breaks g k also (had f h some (rank g) more))
      | inr not_more ↦ of_same (omega arith)
    ]
  ]
    where
      of_same : rank f ≡ rank g → f ≡ g
      of_same e = sym (cause_is f)
          ∙ one_of_kind (rank f) (names f) (also_names f) (names g) (also_names g) (subst (HasCheckpointFault plan c) (sym (cause_is f)) h)
          (subst (λ (n : ℕ). HasCheckpointFault plan c (cause n (names g) (also_names g))) (sym e) (subst (HasCheckpointFault plan c) (sym (cause_is g)) k))
          ∙ ap (λ (n : ℕ). cause n (names g) (also_names g)) e ∙ cause_is g
