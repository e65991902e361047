-- What a collection copies and reads fits its collector's reserve: over its acts and its block, with no log.
use Rattle.std.proofs.Common.{◌≡◌, ◌⊎◌, ℕ, suc, ◌+◌, ◌<◌, ◌≤◌, Bool, true, false, List, [], ◌∷◌, ◌++◌, length, count_by, Option, Some, None}
use Rattle.std.proofs.Common.{option_map, get_or, slice_set, refl, ap, sym, subst, ◌∙◌, inl, inr, arith}
use Rattle.std.specs.Prelude.{Contains}
use Rattle.std.specs.List.{last_or}
use Rattle.std.proofs.lemmas.Bool.{cases_eq, cases_Bool, eq-eqb}
use Rattle.std.proofs.lemmas.Option.{same_Some, none-some}
use Rattle.std.proofs.lemmas.List.{length_push, get_or-set_other}
use Rattle.std.proofs.lemmas.List.Sums.{sum_by_push}
use Rattle.slot_types.specs.declared.plans.DiePlan.{DiePlan}
use Rattle.slot_types.specs.declared.pages.Place.{Place}
use Rattle.slot_types.specs.declared.acts.Act.{Act}
use Rattle.slot_types.specs.declared.acts.Act.TheVariants as does
use Rattle.die_log.specs.Model.Log.{Job}
use Rattle.die_log.specs.Model.Flash.{Cells, block_at, block_of_page, open_block, valid, cells_after_program, cells_after_program_in, cells_after}
use Rattle.die_log.specs.Model.Work.{is_erase, is_copy_program}
use Rattle.die_log.specs.Model.Answers.{buffer_after, is_placed_in, is_block}
use Rattle.die_log.specs.Invariants.SoundCells.{AreSoundCells, IsClosed, MayRead, MayProgram, MayEraseSlot}
use Rattle.die_log.specs.Invariants.TrueAccounts.{reserve_full}
use Rattle.die_log.proofs.Cells.Collections.{last_push, is_block_says}
use Rattle.die_log.proofs.Cells.Steps.{open_is}
use Rattle.die_log.proofs.LogInvariants.AfterNoAct.{runs_with, runs_says}
use Rattle.die_log.proofs.Tokens.Sums.{one_if}
use Rattle.die_log.proofs.Tokens.Copying.{set_fewer, set_less, other_block, program_by, placed_at, some_valid}

abbrev pub is_copy_read : Act → Bool
is_copy_read (does.CopyRead page) = true
is_copy_read _ = false

-- 1 while the page in the buffer is still placed in the block
abbrev pub in_buffer : Cells → List Act → ℕ → ℕ
in_buffer c own b = one_if (is_placed_in c b (buffer_after (last_or None own)))

-- a collection with these acts and this block: while it runs, what it read and what is still placed in its block fit its
-- reserve, except for the page in its buffer
pub record IsBounded (plan : DiePlan) (c : Cells) (j : Job) (own : List Act) (block : Option ℕ) : Type 0 where
  pub copies : count_by is_copy_program own ≤ reserve_full plan
  pub reads : count_by is_copy_read own ≤ reserve_full plan
  pub erases : count_by is_erase own ≤ plan.shape.erase_slots
  pub total : length own ≤ count_by is_copy_read own + count_by is_copy_program own + count_by is_erase own
  pub fits : (b : ℕ) → runs_with plan j own ≡ true → block ≡ Some b → count_by is_copy_read own + valid c b
      ≤ reserve_full plan + in_buffer c own b

-- without acts
pub idle_bounded : (plan : DiePlan) (c : Cells) (j : Job) (own : List Act) (block : Option ℕ) → own ≡ [] → IsBounded plan c j own block
idle_bounded plan c j own block e = subst (λ l. IsBounded plan c j l block) (sym e) (record {
  copies = omega arith;
  reads = omega arith;
  erases = omega arith;
  total = omega arith;
  fits = λ b runs is. absurd (omega (arith, (runs_says plan j [] runs).begun));
})

-- Acts of others

kept_place : (c : Cells) (page p b : ℕ) (new : Option Place) → (p ≡ page → ⊥)
    → is_block b (option_map (λ q. q.block) (get_or (slice_set c.places page new) p None)) ≡ is_block b (block_of_page c p)
kept_place c page p b new apart = ap (λ (o : Option Place). is_block b (option_map (λ (q : Place). q.block) o))
    (get_or-set_other c.places page p new None apart)

-- a program of a page takes it out of a closed block, or leaves what is in the buffer there
program_in_buffer : (plan : DiePlan) (c : Cells) (page b : ℕ) (buffer o : Option ℕ) → 0 < plan.shape.pages → AreSoundCells plan c
    → IsClosed plan c b → open_block plan c ≡ o
    → valid (cells_after_program_in page o c) b + one_if (is_placed_in c b buffer)
    ≤ valid c b + one_if (is_placed_in (cells_after_program_in page o c) b buffer)
program_in_buffer plan c page b buffer None pages s closed e = omega arith
program_in_buffer plan c page b None (Some o) pages s closed e = omega (arith, program_by plan c page b (Some o) pages s closed e)
program_in_buffer plan c page b (Some p) (Some o) pages s closed e = elim (cases_eq p page) [
  | inl is ↦ elim (cases_Bool (is_placed_in c b (Some page))) [
    | inl placed ↦
        let at = placed_at c page b placed in
        let less = set_less c.places page b at.place (Some (record { block = o; page = (block_at c o).filled })) at.stands at.inside
        (other_block plan c o b (open_is plan c o pages s e) closed) in
        let one : one_if (is_placed_in c b (Some p)) ≡ 1 = ap (λ n. one_if (is_placed_in c b (Some n))) is ∙ ap one_if placed in
        omega (arith, less, one)
    | inr away ↦
        let none : one_if (is_placed_in c b (Some p)) ≡ 0 = ap (λ n. one_if (is_placed_in c b (Some n))) is ∙ ap one_if away in
        omega (arith, none, program_by plan c page b (Some o) pages s closed e)
  ]
  | inr apart ↦
      let same = ap one_if (kept_place c page p b (Some (record { block = o; page = (block_at c o).filled })) apart) in
      omega (arith, same, program_by plan c page b (Some o) pages s closed e)
]

-- and so does a trim of a page
trim_in_buffer : (c : Cells) (page b : ℕ) (buffer : Option ℕ)
    → valid (record c { places = slice_set c.places page None }) b + one_if (is_placed_in c b buffer)
    ≤ valid c b + one_if (is_placed_in (record c { places = slice_set c.places page None }) b buffer)
trim_in_buffer c page b None = omega (arith, set_fewer c.places page b None refl)
trim_in_buffer c page b (Some p) = elim (cases_eq p page) [
  | inl is ↦ elim (cases_Bool (is_placed_in c b (Some page))) [
    | inl placed ↦
        let at = placed_at c page b placed in
        let less = set_less c.places page b at.place None at.stands at.inside refl in
        let one : one_if (is_placed_in c b (Some p)) ≡ 1 = ap (λ n. one_if (is_placed_in c b (Some n))) is ∙ ap one_if placed in
        omega (arith, less, one)
    | inr away ↦
        let none : one_if (is_placed_in c b (Some p)) ≡ 0 = ap (λ n. one_if (is_placed_in c b (Some n))) is ∙ ap one_if away in
        omega (arith, none, set_fewer c.places page b None refl)
  ]
  | inr apart ↦
      let same = ap one_if (kept_place c page p b None apart) in
      omega (arith, same, set_fewer c.places page b None refl)
]

with_fits : (plan : DiePlan) (c d : Cells) (j : Job) (own : List Act) (block : Option ℕ) → IsBounded plan c j own block
    → ((b : ℕ) → runs_with plan j own ≡ true → block ≡ Some b → valid d b + in_buffer c own b ≤ valid c b + in_buffer d own b)
    → IsBounded plan d j own block
with_fits plan c d j own block h less = record {
  copies = h.copies;
  reads = h.reads;
  erases = h.erases;
  total = h.total;
  fits = λ b runs is. omega (arith, h.fits b runs is, less b runs is);
}

-- an act of another keeps what a collection is bounded by, as its block is closed while it runs
pub other_bounded : (plan : DiePlan) (c : Cells) (j : Job) (own : List Act) (block : Option ℕ) (n : ℕ) (act : Act) → 0 < plan.shape.pages
    → AreSoundCells plan c
    → ((b : ℕ) → runs_with plan j own ≡ true → block ≡ Some b → IsClosed plan c b) → IsBounded plan c j own block
    → IsBounded plan (cells_after plan (Some (n, act)) c) j own block
other_bounded plan c j own block n (does.Read page bytes) pages s closed h = h
other_bounded plan c j own block n (does.Write page bytes) pages s closed h =
    with_fits plan c (cells_after_program plan page c) j own block h
    (λ b runs is. program_in_buffer plan c page b (buffer_after (last_or None own)) (open_block plan c) pages s (closed b runs is) refl)
other_bounded plan c j own block n (does.Trim page) pages s closed h =
    with_fits plan c (record c { places = slice_set c.places page None }) j own block h
    (λ b runs is. trim_in_buffer c page b (buffer_after (last_or None own)))
other_bounded plan c j own block n (does.CopyRead page) pages s closed h = h
other_bounded plan c j own block n (does.CopyProgram page) pages s closed h =
    with_fits plan c (cells_after_program plan page c) j own block h
    (λ b runs is. program_in_buffer plan c page b (buffer_after (last_or None own)) (open_block plan c) pages s (closed b runs is) refl)
other_bounded plan c j own block n (does.Erase b) pages s closed h = with_fits plan c (cells_after plan (Some (n, does.Erase b)) c) j own
    block h (λ a runs is. omega arith)

-- Own acts

reads_more : (own : List Act) (act : Act) → count_by is_copy_read (own ++ act ∷ []) ≡ count_by is_copy_read own + one_if (is_copy_read act)
reads_more own act = sum_by_push (λ x. one_if (is_copy_read x)) own act

copies_more : (own : List Act) (act : Act) → count_by is_copy_program (own ++ act ∷ [])
    ≡ count_by is_copy_program own + one_if (is_copy_program act)
copies_more own act = sum_by_push (λ x. one_if (is_copy_program x)) own act

erases_more : (own : List Act) (act : Act) → count_by is_erase (own ++ act ∷ []) ≡ count_by is_erase own + one_if (is_erase act)
erases_more own act = sum_by_push (λ x. one_if (is_erase x)) own act

in_buffer_after : (c : Cells) (own : List Act) (act : Act) (b : ℕ) → in_buffer c (own ++ act ∷ []) b
    ≡ one_if (is_placed_in c b (buffer_after (Some act)))
in_buffer_after c own act b = ap (λ o. one_if (is_placed_in c b (buffer_after o))) (last_push None own act)

placed_test : (c : Cells) (page b : ℕ) → block_of_page c page ≡ Some b → is_block b (block_of_page c page) ≡ true
placed_test c page b e = ap (is_block b) e ∙ eq-eqb b b refl

last_contained : (o : Option Act) (xs : List Act) (x : Act) → last_or o xs ≡ Some x → (o ≡ Some x) ⊎ Contains xs x
last_contained o [] x e = inl e
last_contained o (y ∷ xs) x e = later (last_contained (Some y) xs x e)
  where
    later : (Some y ≡ Some x) ⊎ Contains xs x → (o ≡ Some x) ⊎ Contains (y ∷ xs) x
    later (inl same) = inr (0, omega arith, same_Some y x same)
    later (inr h) = inr (suc h.0, omega (arith, h.1), h.2)

abbrev nothing : Option Act
nothing = None

-- before a read nothing is in the buffer
read_in_buffer : (c : Cells) (own : List Act) (b page : ℕ) → MayRead c own b page → in_buffer c own b ≡ 0
read_in_buffer c own b page may = by_last (last_or None own) refl
  where
    left : (p : ℕ) → (nothing ≡ Some (does.CopyRead p)) ⊎ Contains own (does.CopyRead p) → block_of_page c p ≡ Some b → ⊥
    left p (inl none) placed = absurd (none-some (does.CopyRead p) none)
    left p (inr h) placed = may.none_left p h placed

    by_last : (o : Option Act) → last_or None own ≡ o → one_if (is_placed_in c b (buffer_after o)) ≡ 0
    by_last None e = refl
    by_last (Some (does.Read p bytes)) e = refl
    by_last (Some (does.Write p bytes)) e = refl
    by_last (Some (does.Trim p)) e = refl
    by_last (Some (does.CopyProgram p)) e = refl
    by_last (Some (does.Erase a)) e = refl
    by_last (Some (does.CopyRead p)) e = elim (cases_Bool (is_block b (block_of_page c p))) [
      | inl placed ↦ absurd (left p (last_contained None own (does.CopyRead p) e) (is_block_says b (block_of_page c p) placed))
      | inr away ↦ ap one_if away
    ]

-- one page is read, which is still placed in the block
pub own_read : (plan : DiePlan) (c : Cells) (j : Job) (own : List Act) (block : Option ℕ) (b page : ℕ) → IsBounded plan c j own block
    → MayRead c own b page → count_by is_copy_read own + valid c b ≤ reserve_full plan + in_buffer c own b
    → IsBounded plan c j (own ++ does.CopyRead page ∷ []) (Some b)
own_read plan c j own block b page h may fits =
    let act : Act = does.CopyRead page in
    let test = placed_test c page b may.placed in
    let some : 1 ≤ valid c b = some_valid c page b (placed_at c page b test) in
    let none : in_buffer c own b ≡ 0 = read_in_buffer c own b page may in
    record {
      copies = omega (arith, h.copies, copies_more own act);
      reads = omega (arith, reads_more own act, fits, none, some);
      erases = omega (arith, h.erases, erases_more own act);
      total = omega (arith, h.total, length_push own act, reads_more own act, copies_more own act, erases_more own act);
      fits = λ a runs is.
          let one : in_buffer c (own ++ act ∷ []) b ≡ 1 = in_buffer_after c own act b ∙ ap one_if test in
          subst (λ x. count_by is_copy_read (own ++ act ∷ []) + valid c x ≤ reserve_full plan + in_buffer c (own ++ act ∷ []) x)
          (same_Some b a is) (omega (arith, reads_more own act, fits, none, one));
    }

at_most_one : (b : Bool) → one_if b ≤ 1
at_most_one true = omega arith
at_most_one false = omega arith

-- one page is programmed elsewhere
pub own_copy : (plan : DiePlan) (c : Cells) (j : Job) (own : List Act) (block : Option ℕ) (fresh : ℕ → Bool) (b page o : ℕ) → 0
    < plan.shape.pages → AreSoundCells plan c → IsClosed plan c b → open_block plan c ≡ Some o
    → IsBounded plan c j own block → MayProgram c own fresh b page → count_by is_copy_program own < reserve_full plan
    → count_by is_copy_read own + valid c b ≤ reserve_full plan + in_buffer c own b
    → IsBounded plan (cells_after_program_in page (Some o) c) j (own ++ does.CopyProgram page ∷ []) (Some b)
own_copy plan c j own block fresh b page o pages s closed e h may few fits =
    let act : Act = does.CopyProgram page in
    let d : Cells = cells_after_program_in page (Some o) c in
    let at = placed_at c page b (placed_test c page b may.placed) in
    let less : valid d b + 1 ≤ valid c b = set_less c.places page b at.place (Some (record { block = o; page = (block_at c o).filled }))
    at.stands at.inside (other_block plan c o b (open_is plan c o pages s e) closed) in
    record {
      copies = omega (arith, few, copies_more own act);
      reads = omega (arith, h.reads, reads_more own act);
      erases = omega (arith, h.erases, erases_more own act);
      total = omega (arith, h.total, length_push own act, reads_more own act, copies_more own act, erases_more own act);
      fits = λ a runs is.
          subst (λ x. count_by is_copy_read (own ++ act ∷ []) + valid d x ≤ reserve_full plan + in_buffer d (own ++ act ∷ []) x)
          (same_Some b a is)
          (omega (arith, reads_more own act, fits, less, at_most_one (is_placed_in c b (buffer_after (last_or None own)))));
    }

-- one slot of the erase, when no page is placed there
pub own_erase : (plan : DiePlan) (c : Cells) (j : Job) (own : List Act) (block : Option ℕ) (n b a : ℕ) → IsBounded plan c j own block
    → MayEraseSlot plan c own b a
    → IsBounded plan (cells_after plan (Some (n, does.Erase a)) c) j (own ++ does.Erase a ∷ []) (Some b)
own_erase plan c j own block n b a h may =
    let act : Act = does.Erase a in
    let d : Cells = cells_after plan (Some (n, does.Erase a)) c in
    record {
      copies = omega (arith, h.copies, copies_more own act);
      reads = omega (arith, h.reads, reads_more own act);
      erases = omega (arith, may.left, erases_more own act);
      total = omega (arith, h.total, length_push own act, reads_more own act, copies_more own act, erases_more own act);
      fits = λ x runs is.
          subst (λ y. count_by is_copy_read (own ++ act ∷ []) + valid d y ≤ reserve_full plan + in_buffer d (own ++ act ∷ []) y)
          (same_Some b x is) (omega (arith, reads_more own act, h.reads, may.valid_none));
    }
