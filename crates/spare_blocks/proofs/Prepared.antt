-- A block more of a part that is prepared.
use Rattle.std.proofs.Common.{◌≡◌, ◌≢◌, ◌⊎◌, ℕ, ◌+◌, ◌<◌, ◌≤◌, true, false, List, [], ◌∷◌, ◌++◌, length, get_or, nat_eq}
use Rattle.std.proofs.Common.{map, refl, ap, sym, ◌∙◌, subst, inl, inr, arith}
use Rattle.std.specs.Prelude.{Contains, replicate}
use Rattle.std.specs.List.{list_any, range_with_len}
use Rattle.std.proofs.lemmas.Bool.{cases_eq, cases_lt, false≢true}
use Rattle.std.proofs.lemmas.Bool.Decides.{nat_tests}
use Rattle.std.proofs.lemmas.List.{get_or_past, get_or_append_left, get_or_push, length_push, length-replicate, get_or-replicate}
use Rattle.std.proofs.lemmas.List.FromFn.{fill_by_all}
use Rattle.slot_types.specs.declared.plans.Shape.{Shape}
use Rattle.slot_types.specs.Shapes.{IsShape}
use Rattle.flash_die.specs.Flash.{Block, free_block}
use Rattle.spare_blocks.specs.declared.blocks.Health.TheVariants as health
use Rattle.std.proofs.lemmas.List.Folds.{list_any-from_Any}
use Rattle.spare_blocks.specs.declared.cells.BlockUse.{BlockUse}
use Rattle.spare_blocks.specs.declared.cells.BlockUse.TheVariants as use_as
use Rattle.spare_blocks.specs.Parts.{PartBlock, part_block, free_part_block}
use Rattle.spare_blocks.specs.Tables.{Table, IsTable, use_of, on_part, empty_table}
use Rattle.spare_blocks.specs.Preparing.{IsPrepared}
use Rattle.spare_blocks.specs.Spares.{Spared, spared_block, spared_blocks, IsFreshSpared}
use Rattle.spare_blocks.proofs.Numbers.{bad-plan}

equal_itself : (q : ℕ) → nat_eq q q ≡ true
equal_itself q = grind (arith, nat_tests)

pub not_listed : (xs : List ℕ) (q : ℕ) → list_any (λ y. nat_eq y q) xs ≡ false → Contains xs q → ⊥
not_listed xs q none is =
    false≢true (sym none ∙ list_any-from_Any (λ y. nat_eq y q) xs (is.0, q, is.1, is.2, equal_itself q))

pushed_here : (uses : List BlockUse) (u : BlockUse) (x : ℕ) → x ≡ length uses → get_or (uses ++ u ∷ []) x use_as.Bad ≡ u
pushed_here uses u x is = get_or_push uses u use_as.Bad x (sym is)

pushed_other : (uses : List BlockUse) (u : BlockUse) (x : ℕ) → x ≢ length uses → get_or (uses ++ u ∷ []) x use_as.Bad ≡ get_or uses x use_as.Bad
pushed_other uses u x other = by_case (cases_lt x (length uses))
  where
    by_case : (x < length uses) ⊎ (length uses ≤ x) → get_or (uses ++ u ∷ []) x use_as.Bad ≡ get_or uses x use_as.Bad
    by_case (inl below) = get_or_append_left uses (u ∷ []) use_as.Bad x below
    by_case (inr past) =
        get_or_past (uses ++ u ∷ []) x use_as.Bad (omega (arith, past, other, length_push uses u)) ∙ sym (get_or_past uses x use_as.Bad past)

pub none_prepared : (limit : ℕ) (bad : List ℕ) (blocks : List PartBlock) → IsPrepared limit bad empty_table blocks
none_prepared limit bad blocks = record {
  few = omega arith;
  free = λ x used. absurd (used refl);
  known = λ x listed. refl;
}

pub one_prepared : (limit : ℕ) (bad : List ℕ) (t u : Table) (becomes : BlockUse) (blocks later : List PartBlock) → IsPrepared limit bad t blocks
    → u.uses ≡ t.uses ++ becomes ∷ [] → length u.blocks ≤ limit
    → ((y : ℕ) → y ≢ length t.uses → part_block later y ≡ part_block blocks y)
    → ((becomes ≡ use_as.Bad → ⊥) → part_block later (length t.uses) ≡ free_part_block)
    → (Contains bad (length t.uses) → becomes ≡ use_as.Bad) → IsPrepared limit bad u later
one_prepared limit bad t u becomes blocks later is pushed few others free known = record {
  few = few;
  free = λ x used. free_at x used (cases_eq x (length t.uses));
  known = λ x listed. known_at x listed (cases_eq x (length t.uses));
}
  where
    use_is : (x : ℕ) → use_of u x ≡ get_or (t.uses ++ becomes ∷ []) x use_as.Bad
    use_is x = ap (λ (l : List BlockUse). get_or l x use_as.Bad) pushed

    free_at : (x : ℕ) → (use_of u x ≡ use_as.Bad → ⊥) → (x ≡ length t.uses) ⊎ (x ≡ length t.uses → ⊥) → part_block later x ≡ free_part_block
    free_at x used (inl same) =
        ap (part_block later) same ∙ free (λ e. used (use_is x ∙ (pushed_here t.uses becomes x same ∙ e)))
    free_at x used (inr other) =
        others x other ∙ is.free x (λ e. used (use_is x ∙ (pushed_other t.uses becomes x other ∙ e)))

    known_at : (x : ℕ) → Contains bad x → (x ≡ length t.uses) ⊎ (x ≡ length t.uses → ⊥) → use_of u x ≡ use_as.Bad
    known_at x listed (inl same) =
        use_is x ∙ (pushed_here t.uses becomes x same ∙ known (subst (λ (y : ℕ). Contains bad y) same listed))
    known_at x listed (inr other) = use_is x ∙ (pushed_other t.uses becomes x other ∙ is.known x listed)

-- what holds while blocks are prepared
pub record IsPreparing (limit : ℕ) (bad : List ℕ) (t : Table) (blocks : List PartBlock) (given k end : ℕ) : Type 0 where
  pub uses : length t.uses ≡ k
  pub given_is : given ≡ length t.blocks
  pub prepared : IsPrepared limit bad t blocks
  pub whole : (x : ℕ) → k ≤ x → x < end → (part_block blocks x).failed ≡ false

pub one_more : (limit : ℕ) (bad : List ℕ) (t u : Table) (becomes : BlockUse) (blocks later : List PartBlock) (given more k end : ℕ)
    → IsPreparing limit bad t blocks given k end → u.uses ≡ t.uses ++ becomes ∷ [] → more ≡ length u.blocks → more ≤ limit
    → ((y : ℕ) → y ≢ k → part_block later y ≡ part_block blocks y)
    → ((becomes ≡ use_as.Bad → ⊥) → part_block later k ≡ free_part_block)
    → (Contains bad k → becomes ≡ use_as.Bad) → IsPreparing limit bad u later more (k + 1) end
one_more limit bad t u becomes blocks later given more k end is pushed count few others free known = record {
  uses = ap (λ (l : List BlockUse). length l) pushed ∙ (length_push t.uses becomes ∙ ap (λ (n : ℕ). n + 1) is.uses);
  given_is = count;
  prepared = one_prepared limit bad t u becomes blocks later is.prepared pushed (omega (arith, count, few))
      (λ y far. others y (λ same. far (same ∙ sym is.uses))) (λ other. ap (part_block later) is.uses ∙ free other)
      (λ listed. known (subst (λ (x : ℕ). Contains bad x) is.uses listed));
  whole = λ x from below. ap (λ (b : PartBlock). b.failed) (others x (λ same. absurd (omega (arith, same, from)))) ∙ is.whole x (omega (arith, from)) below;
}

-- a device on what was prepared
pub fresh_on : {N : Type 0} (blocks : N → List PartBlock) (d : Spared N) (shape : Shape) (bad : List ℕ) → IsTable d.table
    → IsPrepared shape.blocks bad d.table (blocks d.part) → shape.blocks ≤ length d.table.blocks → d.shape ≡ shape → IsShape shape
    → d.health ≡ health.Working → d.erases ≡ replicate shape.blocks 0 → d.failures ≡ 0 → IsFreshSpared blocks shape bad d
fresh_on blocks d shape bad s is enough same limits works erases well = record {
  shape_is = same;
  limits = limits;
  works = works;
  fresh = record { unused = unused; well = well };
  known = is.known;
}
  where
    free : (k : ℕ) → k < shape.blocks → spared_block blocks d k ≡ free_block
    free k lt =
        let F : PartBlock → List ℕ → Block = λ x l. record { pages = map (λ c. c.bytes) x.cells; erasing = x.erasing; erases = get_or l k 0 } in
        let G : ℕ → Block = λ n. record { pages = []; erasing = 0; erases = n } in
        let in_plan : use_of d.table (on_part d.table k) ≡ use_as.InPlan k = s.numbered k (omega (arith, lt, enough)) in
        ap (λ (x : PartBlock). F x d.erases) (is.free (on_part d.table k) (λ bad_one. bad-plan k (sym bad_one ∙ in_plan)))
        ∙ (ap (F free_part_block) erases ∙ ap G (get_or-replicate shape.blocks k 0 0 lt))

    unused : spared_blocks blocks d ≡ replicate shape.blocks free_block
    unused =
        ap (λ (x : Shape). map (spared_block blocks d) (range_with_len 0 x.blocks)) same
        ∙ sym (fill_by_all (spared_block blocks d) (replicate shape.blocks free_block) shape.blocks free_block
        (length-replicate shape.blocks free_block)
        (λ k lt. get_or-replicate shape.blocks k free_block free_block lt ∙ sym (free k lt)))
