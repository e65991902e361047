-- Each act keeps what stands of running collections.
use Rattle.std.proofs.Common.{◌≡◌, ◌≢◌, ◌⊎◌, ℕ, zero, suc, ◌+◌, ◌<◌, ◌==◌, ◌||◌, Bool, true, false, cond, List, [], ◌∷◌, ◌++◌, Option, Some}
use Rattle.std.proofs.Common.{None, refl, ap, sym, ◌∙◌, subst, inl, inr, arith, length, unwrap_or}
use Rattle.std.specs.Prelude.{Contains, count_by}
use Rattle.std.specs.List.{last_or, AllByRecursion}
use Rattle.std.proofs.lemmas.List.Sums.{sum_by_push}
use Rattle.std.proofs.lemmas.List.Elements.{Contains-push_cases}
use Rattle.std.proofs.lemmas.Option.{same_Some, none-some}
use Rattle.std.proofs.lemmas.Bool.{true≢false, false_from_ne_true, eqb-true, eq-eqb, ne_eqb}
use Rattle.slot_types.specs.declared.plans.DiePlan.{DiePlan}
use Rattle.slot_types.specs.declared.acts.Act.{Act}
use Rattle.slot_types.specs.declared.acts.Act.TheVariants as does
use Rattle.die_log.specs.Model.Flash.{Cells, Block, block_at, block_of_page, valid, valid_pages}
use Rattle.die_log.specs.Model.Work.{is_erase}
use Rattle.die_log.specs.Model.Answers.{buffer_after, is_block, is_placed_in, read_or_erase, collect_act}
use Rattle.die_log.specs.Results.Legal.{is_change_of}
use Rattle.die_log.specs.Invariants.SoundCells.{IsClosed, AreSoundCells, IsProgram, IsEraseSlot, IsCellStep, IsCollecting, MayDo}
use Rattle.die_log.proofs.Cells.Acts.{program_stays, trim_stays, trimmed_block, erase_stays, erase_left}
use Rattle.die_log.proofs.Cells.Valid.{valid_is, unplaced_is, valid_placed}

-- Acts of others

-- nothing comes into the block
pub keeps_collecting : (plan : DiePlan) (c d : Cells) (own : List Act) (fresh newer : ℕ → Bool) (b : ℕ) → IsCollecting plan c own fresh b
    → block_at d b ≡ block_at c b
    → ((p : ℕ) → block_of_page d p ≡ Some b → (block_of_page c p ≡ Some b) × (newer p ≡ true → fresh p ≡ true))
    → IsCollecting plan d own newer b
keeps_collecting plan c d own fresh newer b k same stays = record {
  closed = ap (λ (s : Block). s.filled) same ∙ k.closed;
  erases = ap (λ (s : Block). s.erasing) same ∙ k.erases;
  of_own = k.of_own;
  read = λ p h e. k.read p h (stays p e).0;
  unchanged = λ p h n e. k.unchanged p h ((stays p e).1 n) (stays p e).0;
}

-- the open block isn't the one that is collected
apart_open : (plan : DiePlan) (c d : Cells) (own : List Act) (fresh : ℕ → Bool) (b o page : ℕ) → IsCollecting plan c own fresh b
    → IsProgram plan page o c d → b ≢ o
apart_open plan c d own fresh b o page k w e =
    let closed : (block_at c o).filled ≡ plan.shape.pages = subst (λ (x : ℕ). IsClosed plan c x) e k.closed in
    omega (arith, w.room)

not_written : (page p : ℕ) (before : Bool) → p ≢ page → (page == p || before) ≡ true → before ≡ true
not_written page p before other h = by_test (page == p) (ne_eqb page p (λ e. other (sym e))) h
  where
    by_test : (t : Bool) → t ≡ false → (t || before) ≡ true → before ≡ true
    by_test true e g = absurd (true≢false e)
    by_test false e g = g

-- the act of another keeps a running collection
pub other_step : (plan : DiePlan) (act : Act) (c d : Cells) (own : List Act) (fresh : ℕ → Bool) (b : ℕ) → IsCollecting plan c own fresh b
    → (act ≡ does.Erase b → ⊥) → IsCellStep plan act c d
    → IsCollecting plan d own (λ p. is_change_of p act || fresh p) b
other_step plan (does.Read page bytes) c d own fresh b k differs w = keeps_collecting plan c d own fresh fresh b k
    (ap (λ (x : Cells). block_at x b) w) (λ p e. (sym (ap (λ (x : Cells). block_of_page x p) w) ∙ e, λ n. n))
other_step plan (does.Write page bytes) c d own fresh b k differs w =
    let apart : b ≢ w.0 = apart_open plan c d own fresh b w.0 page k w.1 in
    keeps_collecting plan c d own fresh (λ p. (page == p) || fresh p) b k (w.1.others b apart)
    (λ p e. (
      (program_stays plan page w.0 c d w.1 b p apart e).1,
      not_written page p (fresh p)
          (program_stays plan page w.0 c d w.1 b p apart e).0,
    ))
other_step plan (does.Trim page) c d own fresh b k differs w =
    keeps_collecting plan c d own fresh (λ p. (page == p) || fresh p) b k (trimmed_block page c d w b)
    (λ p e. ((trim_stays page c d w b p e).1, not_written page p (fresh p) (trim_stays page c d w b p e).0))
other_step plan (does.CopyRead page) c d own fresh b k differs w = keeps_collecting plan c d own fresh fresh b k
    (ap (λ (x : Cells). block_at x b) w) (λ p e. (sym (ap (λ (x : Cells). block_of_page x p) w) ∙ e, λ n. n))
other_step plan (does.CopyProgram page) c d own fresh b k differs w =
    let apart : b ≢ w.0 = apart_open plan c d own fresh b w.0 page k w.1 in
    keeps_collecting plan c d own fresh fresh b k (w.1.others b apart)
    (λ p e. ((program_stays plan page w.0 c d w.1 b p apart e).1, λ n. n))
other_step plan (does.Erase a) c d own fresh b k differs w =
    keeps_collecting plan c d own fresh fresh b k (w.others b (λ e. differs (ap does.Erase (sym e))))
    (λ p e. (sym (erase_stays plan a c d w p) ∙ e, λ n. n))

-- Own acts

pub last_push : (o : Option Act) (xs : List Act) (x : Act) → last_or o (xs ++ x ∷ []) ≡ Some x
last_push o [] x = refl
last_push o (y ∷ xs) x = last_push (Some y) xs x

erases_push : (own : List Act) (act : Act) → count_by is_erase (own ++ act ∷ []) ≡ count_by is_erase own + cond (is_erase act) 1 0
erases_push own act = sum_by_push (λ x. cond (is_erase x) 1 0) own act

push_case : (own : List Act) (act x : Act) → (act ≡ x → ⊥) → Contains (own ++ act ∷ []) x → Contains own x
push_case own act x differs h = by_case (Contains-push_cases own act x h)
  where
    by_case : Contains own x ⊎ (act ≡ x) → Contains own x
    by_case (inl k) = k
    by_case (inr e) = absurd (differs e)

-- begun on a closed block that isn't in erase
pub begins_collecting : (plan : DiePlan) (c : Cells) (fresh : ℕ → Bool) (b : ℕ) → IsClosed plan c b → (block_at c b).erasing ≡ 0
    → IsCollecting plan c [] fresh b
begins_collecting plan c fresh b closed none = record {
  closed = closed;
  erases = none;
  of_own = λ a h. absurd (omega (arith, h.1));
  read = λ p h e. absurd (omega (arith, h.1));
  unchanged = λ p h n e. absurd (none-some (does.CopyRead p) h);
}

same_page : (p q : ℕ) → does.CopyRead p ≡ does.CopyRead q → p ≡ q
same_page p q e = cc

same_block : (p q : ℕ) → does.Erase p ≡ does.Erase q → p ≡ q
same_block p q e = cc

not_erase_end : (plan : DiePlan) (b : ℕ) (c d : Cells) (own : List Act) → IsEraseSlot plan b c d → (block_at c b).erasing
    ≡ count_by is_erase own → count_by is_erase (own ++ does.Erase b ∷ []) ≢ plan.shape.erase_slots
    → ((block_at d b).filled ≡ (block_at c b).filled) × ((block_at d b).erasing ≡ (block_at c b).erasing + 1)
not_erase_end plan b c d own w is differs = by_case w.slot
  where
    by_case : (((block_at c b).erasing + 1 ≡ plan.shape.erase_slots) × ((block_at d b).filled ≡ 0) × ((block_at d b).erasing ≡ 0))
        ⊎ (((block_at c b).erasing + 1 ≢ plan.shape.erase_slots) × ((block_at d b).filled ≡ (block_at c b).filled)
        × ((block_at d b).erasing ≡ (block_at c b).erasing + 1))
        → ((block_at d b).filled ≡ (block_at c b).filled) × ((block_at d b).erasing ≡ (block_at c b).erasing + 1)
    by_case (inl h) = absurd (differs (omega (arith, erases_push own (does.Erase b), h.0)))
    by_case (inr h) = (h.1, h.2)

-- an act of its own keeps a collection that it doesn't end
pub own_step : (plan : DiePlan) (act : Act) (c d : Cells) (own : List Act) (fresh newer : ℕ → Bool) (b : ℕ)
    → IsCollecting plan c own fresh b → MayDo plan c own fresh b act → IsCellStep plan act c d
    → count_by is_erase (own ++ act ∷ []) ≢ plan.shape.erase_slots → ((p : ℕ) → newer p ≡ false)
    → IsCollecting plan d (own ++ act ∷ []) newer b
own_step plan (does.Read page bytes) c d own fresh newer b k may w differs never = absurd may
own_step plan (does.Write page bytes) c d own fresh newer b k may w differs never = absurd may
own_step plan (does.Trim page) c d own fresh newer b k may w differs never = absurd may
own_step plan (does.CopyRead page) c d own fresh newer b k may w differs never = record {
  closed = rw w k.closed;
  erases = rw w (k.erases ∙ omega (arith, erases_push own (does.CopyRead page)));
  of_own = λ a h. k.of_own a (push_case own (does.CopyRead page) (does.Erase a) (λ e. absurd cc) h);
  read = λ p h e. by_case p (sym (ap (λ (x : Cells). block_of_page x p) w) ∙ e)
      (Contains-push_cases own (does.CopyRead page) (does.CopyRead p) h);
  unchanged = λ p h n e. true≢false (sym n ∙ never p);
}
  where
    by_case : (p : ℕ) → block_of_page c p ≡ Some b → Contains own (does.CopyRead p) ⊎ (does.CopyRead page ≡ does.CopyRead p)
        → last_or None (own ++ does.CopyRead page ∷ []) ≡ Some (does.CopyRead p)
    by_case p e (inl h) = absurd (may.none_left p h e)
    by_case p e (inr is) = last_push None own (does.CopyRead page) ∙ ap Some is
own_step plan (does.CopyProgram page) c d own fresh newer b k may w differs never =
    let apart : b ≢ w.0 = apart_open plan c d own fresh b w.0 page k w.1 in
    let same : block_at d b ≡ block_at c b = w.1.others b apart in record {
      closed = ap (λ (s : Block). s.filled) same ∙ k.closed;
      erases = ap (λ (s : Block). s.erasing) same ∙ (k.erases ∙ omega (arith, erases_push own (does.CopyProgram page)));
      of_own = λ a h. k.of_own a (push_case own (does.CopyProgram page) (does.Erase a) (λ e. absurd cc) h);
      read = λ p h e.
          let stays = program_stays plan page w.0 c d w.1 b p apart e in
          absurd (stays.0 (sym (same_page page p (same_Some _ _ (sym may.follows
          ∙ k.read p (push_case own (does.CopyProgram page) (does.CopyRead p) (λ x. absurd cc) h) stays.1)))));
      unchanged = λ p h n e. true≢false (sym n ∙ never p);
    }
own_step plan (does.Erase a) c d own fresh newer b k may w differs never = subst Goal (sym may.same) (λ v x. at_own v x) w differs
  where
    Goal : ℕ → Type 0
    Goal a = IsEraseSlot plan a c d → count_by is_erase (own ++ does.Erase a ∷ []) ≢ plan.shape.erase_slots
        → IsCollecting plan d (own ++ does.Erase a ∷ []) newer b

    at_own : IsEraseSlot plan b c d → count_by is_erase (own ++ does.Erase b ∷ []) ≢ plan.shape.erase_slots
        → IsCollecting plan d (own ++ does.Erase b ∷ []) newer b
    at_own v x =
        let h = not_erase_end plan b c d own v k.erases x in record {
          closed = h.0 ∙ k.closed;
          erases = omega (arith, h.1, k.erases, erases_push own (does.Erase b));
          of_own = λ e g. own_case e (Contains-push_cases own (does.Erase b) (does.Erase e) g);
          read = λ p g e. absurd (may.unplaced p (sym (erase_stays plan b c d v p) ∙ e));
          unchanged = λ p g n e. true≢false (sym n ∙ never p);
        }
      where
        own_case : (e : ℕ) → Contains own (does.Erase e) ⊎ (does.Erase b ≡ does.Erase e) → e ≡ b
        own_case e (inl g) = k.of_own e g
        own_case e (inr is) = sym (same_block b e is)

-- The next act

buffered : (o : Option Act) (page : ℕ) → buffer_after o ≡ Some page → o ≡ Some (does.CopyRead page)
buffered None page e = absurd cc
buffered (Some (does.Read p bytes)) page e = absurd cc
buffered (Some (does.Write p bytes)) page e = absurd cc
buffered (Some (does.Trim p)) page e = absurd cc
buffered (Some (does.CopyRead p)) page e = cc
buffered (Some (does.CopyProgram p)) page e = absurd cc
buffered (Some (does.Erase a)) page e = absurd cc

pub is_block_says : (b : ℕ) (o : Option ℕ) → is_block b o ≡ true → o ≡ Some b
is_block_says b None h = absurd cc
is_block_says b (Some v) h = ap Some (eqb-true v b h)

block_is : (b : ℕ) (o : Option ℕ) → o ≡ Some b → is_block b o ≡ true
block_is b None h = absurd cc
block_is b (Some v) h = eq-eqb v b (same_Some v b h)

read_or_erase_may : (plan : DiePlan) (c : Cells) (own : List Act) (fresh : ℕ → Bool) (b : ℕ) (pages : List ℕ) → 0 < plan.shape.erase_slots
    → AreSoundCells plan c → IsCollecting plan c own fresh b
    → ((p : ℕ) → Contains own (does.CopyRead p) → block_of_page c p ≡ Some b → ⊥) → valid_pages plan c b ≡ pages
    → MayDo plan c own fresh b (read_or_erase b pages)
read_or_erase_may plan c own fresh b [] more s k left e =
    let none : valid c b ≡ 0 = sym (valid_is plan c b s) ∙ ap length e in record {
      same = refl;
      left = omega (arith, k.erases, erase_left plan c b more s);
      closed = k.closed;
      valid_none = none;
      unplaced = unplaced_is plan c b none;
    }
read_or_erase_may plan c own fresh b (page ∷ pages) more s k left e =
    let placed : block_of_page c page ≡ Some b = (subst (AllByRecursion (λ p. block_of_page c p ≡ Some b)) e (valid_placed plan c b)).0 in
    record {
      placed = placed;
      none_left = left;
      unerased = by_count (count_by is_erase own) refl placed;
    }
  where
    by_count : (n : ℕ) → count_by is_erase own ≡ n → block_of_page c page ≡ Some b → n ≡ 0
    by_count zero is placed = refl
    by_count (suc n) is placed = absurd ((s.erasing b (omega (arith, k.erases))).2 page placed)

act_may : (plan : DiePlan) (c : Cells) (own : List Act) (fresh : ℕ → Bool) (b : ℕ) (o : Option ℕ) → 0 < plan.shape.erase_slots
    → AreSoundCells plan c → IsCollecting plan c own fresh b
    → buffer_after (last_or None own) ≡ o → (t : Bool) → is_placed_in c b o ≡ t → (act : Act)
    → cond t (Some (does.CopyProgram (unwrap_or o 0))) (Some (read_or_erase b (valid_pages plan c b))) ≡ Some act
    → MayDo plan c own fresh b act
act_may plan c own fresh b None more s k buffer true test act e = absurd cc
act_may plan c own fresh b (Some page) more s k buffer true test act e =
    let last : last_or None own ≡ Some (does.CopyRead page) = buffered (last_or None own) page buffer in
    let placed : block_of_page c page ≡ Some b = is_block_says b (block_of_page c page) test in
    subst (MayDo plan c own fresh b) (same_Some _ _ e) (record
    { follows = last; placed = placed; unchanged = false_from_ne_true (fresh page) (λ n. k.unchanged page last n placed) })
act_may plan c own fresh b o more s k buffer false test act e =
    subst (MayDo plan c own fresh b) (same_Some _ _ e) (read_or_erase_may plan c own fresh b (valid_pages plan c b) more s k left refl)
  where
    left : (p : ℕ) → Contains own (does.CopyRead p) → block_of_page c p ≡ Some b → ⊥
    left p h placed =
        let last : last_or None own ≡ Some (does.CopyRead p) = k.read p h placed in
        let is : o ≡ Some p = sym buffer ∙ ap buffer_after last in
        true≢false (sym (ap (is_placed_in c b) is ∙ block_is b (block_of_page c p) placed) ∙ test)

-- what a collection does next, it may do
pub next_may : (plan : DiePlan) (c : Cells) (own : List Act) (fresh : ℕ → Bool) (b : ℕ) (act : Act) → 0 < plan.shape.erase_slots
    → AreSoundCells plan c → IsCollecting plan c own fresh b
    → collect_act plan c (buffer_after (last_or None own)) (Some b) ≡ Some act → MayDo plan c own fresh b act
next_may plan c own fresh b act more s k e =
    act_may plan c own fresh b (buffer_after (last_or None own)) more s k refl (is_placed_in c b (buffer_after (last_or None own))) refl act
    e
