-- The acts of a die are programs and erase slots.
use Rattle.std.proofs.Common.{◌≡◌, ◌≢◌, ◌⊎◌, ℕ, zero, suc, ◌+◌, ◌-◌, ◌<◌, ◌≤◌, ◌==◌, nat_lt, Bool, true, false, cond, List, [], ◌∷◌, Option}
use Rattle.std.proofs.Common.{Some, None, refl, ap, sym, ◌∙◌, subst, inl, inr, arith, length, get_or, slice_set, length-set, replicate}
use Rattle.std.specs.List.{position, position_or_len, sum_by}
use Rattle.std.specs.Option.{option_or}
use Rattle.std.proofs.lemmas.List.Sums.{fails_before_first, sum_by-cons}
use Rattle.std.proofs.lemmas.List.{length-replicate, get_or-set_same, get_or-set_other, get_or_past}
use Rattle.std.proofs.lemmas.List.Quantifiers.{position-Some}
use Rattle.std.proofs.lemmas.Option.{same_Some, none-some}
use Rattle.std.proofs.lemmas.Bool.{true≢false, cases_eq, cases_lt, and_parts, ltb-true, ltb-false, eqb-true, eqb-false}
use Rattle.std.proofs.lemmas.Bool.Decides.{nat_tests}
use Rattle.slot_types.specs.Places.{place_of}
use Rattle.slot_types.specs.declared.plans.DiePlan.{DiePlan}
use Rattle.slot_types.specs.declared.acts.Act.{Act}
use Rattle.slot_types.specs.declared.acts.Act.TheVariants as does
use Rattle.slot_types.specs.declared.pages.Place.{Place}
use Rattle.die_log.specs.Model.Flash.{Cells, Block, free_block, block_at, is_open, open_block, cells_after_program_in, cells_after_program, free_in}
use Rattle.die_log.specs.Model.Flash.{block_after_erase_slot, cells_after, fresh_cells}
use Rattle.die_log.specs.Invariants.SoundCells.{IsOpen, IsClosed, IsUnplaced, AreSoundCells, IsProgram, IsTrim, IsEraseSlot, TakesNext, IsCellStep, HasFreePage}
use Rattle.die_log.proofs.Cells.Acts.{program_sound, trim_sound, erase_sound}

-- Places of lists

by_first : {X : Type 0} (p : X → Bool) (xs : List X) (k : ℕ) → cond (nat_lt k (length xs)) (Some k) None ≡ None → length xs ≤ k
by_first p xs k h = by_test (nat_lt k (length xs)) refl h
  where
    by_test : (b : Bool) → nat_lt k (length xs) ≡ b → cond b (Some k) None ≡ None → length xs ≤ k
    by_test true e g = absurd cc
    by_test false e g = ltb-false k (length xs) e

-- where no place is found, nothing passes
pub no_position : {X : Type 0} (p : X → Bool) (xs : List X) → position p xs ≡ None → (i : ℕ) (d : X) → i < length xs → p (get_or xs i d)
    ≡ false
no_position p xs h i d lt = fails_before_first p xs i d (omega (arith, by_first p xs (position_or_len p xs) h))

-- Programs

new_place : (page b at : ℕ) (q : Place) → Some (record { block = b; page = at }) ≡ Some q → (q.block ≡ b) × (q.page ≡ at)
new_place page b at q e =
    let same : record { block = b; page = at } ≡ q = same_Some _ q e in
    (sym (ap (λ (r : Place). r.block) same), sym (ap (λ (r : Place). r.page) same))

moved_to : (page b : ℕ) (c : Cells) (p : ℕ) (q : Place)
    → place_of (slice_set c.places page (Some (record { block = b; page = (block_at c b).filled }))) p ≡ Some q
    → (p ≡ page) ⊎ (p ≡ page → ⊥) → (page < length c.places) ⊎ (length c.places ≤ page)
    → ((p ≡ page) × (q.block ≡ b) × (q.page ≡ (block_at c b).filled)) ⊎ ((p ≢ page) × (place_of c.places p ≡ Some q))
moved_to page b c p q e (inl is) (inl lt) =
    let new : Option Place = Some (record { block = b; page = (block_at c b).filled }) in
    let here : place_of (slice_set c.places page new) page
    ≡ Some q = subst (λ (x : ℕ). place_of (slice_set c.places page new) x ≡ Some q) is e in
    let h = new_place page b (block_at c b).filled q (sym (get_or-set_same c.places page new None lt) ∙ here) in
    inl (is, h.0, h.1)
moved_to page b c p q e (inl is) (inr past) =
    let new : Option Place = Some (record { block = b; page = (block_at c b).filled }) in
    absurd (none-some q (sym (get_or_past (slice_set c.places page new) p None (omega (arith, length-set c.places page new))) ∙ e))
moved_to page b c p q e (inr other) h = inr (other, sym (get_or-set_other c.places page p _ None other) ∙ e)

-- a block that has room may be programmed, if no other block is open
pub program_is : (plan : DiePlan) (page b : ℕ) (c : Cells) → b < length c.blocks → (block_at c b).filled < plan.shape.pages
    → ((a : ℕ) → IsOpen plan c a → a ≡ b)
    → IsProgram plan page b c (cells_after_program_in page (Some b) c)
program_is plan page b c lt room alone = record {
  blocks = length-set c.blocks b _;
  places = length-set c.places page _;
  room = room;
  alone = alone;
  filled = ap (λ (s : Block). s.filled) (get_or-set_same c.blocks b _ free_block lt);
  erasing = ap (λ (s : Block). s.erasing) (get_or-set_same c.blocks b _ free_block lt);
  others = λ a other. get_or-set_other c.blocks b a _ free_block other;
  moved = λ p q e. moved_to page b c p q e (cases_eq p page) (cases_lt page (length c.places));
}

-- The open block

pub within_blocks : (plan : DiePlan) (c : Cells) (a : ℕ) → 0 < (block_at c a).filled → (a < length c.blocks) ⊎ (length c.blocks ≤ a) → a
    < length c.blocks
within_blocks plan c a h (inl lt) = lt
within_blocks plan c a h (inr past) = let none : (block_at c a).filled
    ≡ 0 = ap (λ (s : Block). s.filled) (get_or_past c.blocks a free_block past) in absurd (omega arith)

test_is : (plan : DiePlan) (s : Block) → 0 < s.filled → s.filled < plan.shape.pages → is_open plan s ≡ true
test_is plan s h k = grind (arith, nat_tests)

test_says : (plan : DiePlan) (s : Block) → is_open plan s ≡ true → (0 < s.filled) × (s.filled < plan.shape.pages)
test_says plan s h = let k = and_parts (nat_lt 0 s.filled) (nat_lt s.filled plan.shape.pages) h in
    (ltb-true 0 s.filled k.0, ltb-true s.filled plan.shape.pages k.1)

-- an open block is found
opened_found : (plan : DiePlan) (c : Cells) (a : ℕ) → IsOpen plan c a → position (is_open plan) c.blocks ≡ None → ⊥
opened_found plan c a h e =
    let lt : a < length c.blocks = within_blocks plan c a h.0 (cases_lt a (length c.blocks)) in
    let fails : is_open plan (get_or c.blocks a free_block) ≡ false = no_position (is_open plan) c.blocks e a free_block lt in
    let passes : is_open plan (block_at c a) ≡ true = test_is plan (block_at c a) h.0 h.1 in
    true≢false (sym passes ∙ fails)

open_by : (plan : DiePlan) (c : Cells) (b : ℕ) (o f : Option ℕ) → 0 < plan.shape.pages → AreSoundCells plan c → position (is_open plan) c.blocks
    ≡ o → position (λ s. s.filled == 0) c.blocks ≡ f
    → option_or o f ≡ Some b → TakesNext plan c b
open_by plan c b (Some a) f more s e g h =
    let is : a ≡ b = same_Some a b h in
    let k = position-Some (is_open plan) c.blocks b free_block (e ∙ h) in
    let says = test_says plan (block_at c b) k.1 in
    record { stands = k.0; room = says.1; alone = λ x p. s.one_open x b p says }
open_by plan c b None f more s e g h =
    let k = position-Some (λ (s : Block). s.filled == 0) c.blocks b free_block (g ∙ h) in
    let zero : (block_at c b).filled ≡ 0 = eqb-true (block_at c b).filled 0 k.1 in
    record { stands = k.0; room = omega arith; alone = λ x p. absurd (opened_found plan c x p e) }

pub open_is : (plan : DiePlan) (c : Cells) (b : ℕ) → 0 < plan.shape.pages → AreSoundCells plan c → open_block plan c ≡ Some b
    → TakesNext plan c b
open_is plan c b more s h = open_by plan c b (position (is_open plan) c.blocks) (position (λ x. x.filled == 0) c.blocks) more s refl refl h

-- a free page shows an open block

positive_at : {X : Type 0} (f : X → ℕ) (xs : List X) → 0 < sum_by f xs → (k : ℕ) × (k < length xs) × ((d : X) → 0 < f (get_or xs k d))
positive_at f [] h = absurd (omega arith)
positive_at {X = X} f (x ∷ xs) h = by_head (f x) refl (λ k. positive_at f xs k)
  where
    by_head : (n : ℕ) → f x ≡ n → (0 < sum_by f xs → (k : ℕ) × (k < length xs) × ((d : X) → 0 < f (get_or xs k d))) → (k : ℕ)
        × (k < length (x ∷ xs)) × ((d : X) → 0 < f (get_or (x ∷ xs) k d))
    by_head zero e again = let r = again (omega (arith, sum_by-cons f x xs)) in (suc r.0, omega (arith, r.1), r.2)
    by_head (suc n) e again = (0, omega arith, λ d. omega arith)

has_room : (plan : DiePlan) (s : Block) → 0 < free_in plan s → s.filled < plan.shape.pages
has_room plan s h = by_test (s.erasing == 0) h
  where
    by_test : (b : Bool) → 0 < cond b (plan.shape.pages - s.filled) 0 → s.filled < plan.shape.pages
    by_test true k = omega arith
    by_test false k = absurd (omega arith)

open_from : (plan : DiePlan) (c : Cells) (a : ℕ) → a < length c.blocks → (block_at c a).filled < plan.shape.pages → (o f : Option ℕ)
    → position (is_open plan) c.blocks ≡ o → position (λ s. s.filled == 0) c.blocks ≡ f → (b : ℕ) × (option_or o f ≡ Some b)
open_from plan c a lt room (Some b) f e g = (b, refl)
open_from plan c a lt room None (Some b) e g = (b, refl)
open_from plan c a lt room None None e g =
    let zero_test : ((get_or c.blocks a free_block).filled == 0)
    ≡ false = no_position (λ (s : Block). s.filled == 0) c.blocks g a free_block lt in
    let filled : (block_at c a).filled ≡ 0 → ⊥ = λ z. eqb-false (block_at c a).filled 0 zero_test z in
    absurd (opened_found plan c a (some_filled (block_at c a).filled filled, room) e)
  where
    some_filled : (n : ℕ) → (n ≡ 0 → ⊥) → 0 < n
    some_filled zero h = absurd (h refl)
    some_filled (suc n) h = omega arith

-- where a page is free, a block is open
pub opens : (plan : DiePlan) (c : Cells) → 0 < sum_by (free_in plan) c.blocks → (b : ℕ) × (open_block plan c ≡ Some b)
opens plan c h =
    let k = positive_at (free_in plan) c.blocks h in
    let room : (block_at c k.0).filled < plan.shape.pages = has_room plan (block_at c k.0) (k.2 free_block) in
    open_from plan c k.0 k.1 room (position (is_open plan) c.blocks) (position (λ x. x.filled == 0) c.blocks) refl refl

-- Steps

pub erase_slot_is : (plan : DiePlan) (b : ℕ) (c : Cells) → b < length c.blocks
    → IsEraseSlot plan b c (record c { blocks = slice_set c.blocks b (block_after_erase_slot plan (block_at c b)) })
erase_slot_is plan b c lt = record {
  blocks = length-set c.blocks b _;
  places = refl;
  others = λ a other. get_or-set_other c.blocks b a _ free_block other;
  slot = subst (Slot (block_at c b)) (sym (get_or-set_same c.blocks b (block_after_erase_slot plan (block_at c b)) free_block lt))
      (by_test (block_at c b) ((block_at c b).erasing + 1 == plan.shape.erase_slots) refl);
}
  where
    Slot : Block → Block → Type 0
    Slot s t = ((s.erasing + 1 ≡ plan.shape.erase_slots) × (t.filled ≡ 0) × (t.erasing ≡ 0))
        ⊎ ((s.erasing + 1 ≢ plan.shape.erase_slots) × (t.filled ≡ s.filled) × (t.erasing ≡ s.erasing + 1))

    by_test : (s : Block) (t : Bool) → (s.erasing + 1 == plan.shape.erase_slots) ≡ t
        → Slot s (cond t (record { filled = 0; erasing = 0; erases = s.erases + 1 }) (record s { erasing = s.erasing + 1 }))
    by_test s true e = inl (eqb-true (s.erasing + 1) plan.shape.erase_slots e, refl, refl)
    by_test s false e = inr (eqb-false (s.erasing + 1) plan.shape.erase_slots e, refl, refl)

program_step : (plan : DiePlan) (page : ℕ) (c : Cells) → 0 < plan.shape.pages → AreSoundCells plan c → 0 < sum_by (free_in plan) c.blocks
    → (b : ℕ) × IsProgram plan page b c (cells_after_program plan page c)
program_step plan page c more s free =
    let o = opens plan c free in
    let k = open_is plan c o.0 more s o.1 in (
      o.0,
      subst (λ (x : Option ℕ). IsProgram plan page o.0 c (cells_after_program_in page x c)) (sym o.1)
          (program_is plan page o.0 c k.stands k.room k.alone),
    )

abbrev nowhere : Option Place
nowhere = None

trimmed_gone : (places : List (Option Place)) (page : ℕ) → place_of (slice_set places page nowhere) page ≡ None
trimmed_gone places page = elim (cases_lt page (length places)) [
  | inl lt ↦ get_or-set_same places page nowhere None lt
  | inr past ↦ get_or_past (slice_set places page nowhere) page None (omega (arith, length-set places page nowhere))
]

trimmed_others : (places : List (Option Place)) (page p : ℕ) (q : Place) → place_of (slice_set places page nowhere) p ≡ Some q
    → place_of places p ≡ Some q
trimmed_others places page p q e = elim (cases_eq p page) [
  | inl is ↦ absurd (none-some q (sym (trimmed_gone places page)
      ∙ subst (λ (x : ℕ). place_of (slice_set places page nowhere) x ≡ Some q) is e))
  | inr other ↦ sym (get_or-set_other places page p nowhere None other) ∙ e
]

trim_is : (page : ℕ) (c : Cells) → IsTrim page c (record c { places = slice_set c.places page None })
trim_is page c = record {
  blocks = refl;
  places = length-set c.places page None;
  gone = trimmed_gone c.places page;
  others = λ p q e. trimmed_others c.places page p q e;
}

-- a program needs a free page, and an erase slot a closed block
pub step_is : (plan : DiePlan) (n : ℕ) (act : Act) (c : Cells) → 0 < plan.shape.pages → AreSoundCells plan c → HasFreePage plan c act
    → ((b : ℕ) → act ≡ does.Erase b → IsClosed plan c b)
    → IsCellStep plan act c (cells_after plan (Some (n, act)) c)
step_is plan n (does.Read page bytes) c more s room closed = refl
step_is plan n (does.Write page bytes) c more s room closed = program_step plan page c more s room
step_is plan n (does.Trim page) c more s room closed = trim_is page c
step_is plan n (does.CopyRead page) c more s room closed = refl
step_is plan n (does.CopyProgram page) c more s room closed = program_step plan page c more s room
step_is plan n (does.Erase b) c more s room closed =
    let is : (block_at c b).filled ≡ plan.shape.pages = closed b refl in
    erase_slot_is plan b c (within_blocks plan c b (omega arith) (cases_lt b (length c.blocks)))

-- a step keeps cells sound, if an erase slot is of a closed block in which no page is placed
pub step_sound : (plan : DiePlan) (act : Act) (c d : Cells) → 0 < plan.shape.erase_slots → AreSoundCells plan c
    → ((b : ℕ) → act ≡ does.Erase b → IsClosed plan c b × IsUnplaced c b) → IsCellStep plan act c d → AreSoundCells plan d
step_sound plan (does.Read page bytes) c d more s ok w = subst (AreSoundCells plan) (sym w) s
step_sound plan (does.Write page bytes) c d more s ok w = program_sound plan page w.0 c d s w.1
step_sound plan (does.Trim page) c d more s ok w = trim_sound plan page c d s w
step_sound plan (does.CopyRead page) c d more s ok w = subst (AreSoundCells plan) (sym w) s
step_sound plan (does.CopyProgram page) c d more s ok w = program_sound plan page w.0 c d s w.1
step_sound plan (does.Erase b) c d more s ok w = let h = ok b refl in erase_sound plan b c d more s h.0 h.1 w

-- Fresh cells

fresh_block : (n a : ℕ) → get_or (replicate n free_block) a free_block ≡ free_block
fresh_block zero a = refl
fresh_block (suc n) zero = refl
fresh_block (suc n) (suc a) = fresh_block n a

fresh_place : (n a : ℕ) → place_of (replicate n nowhere) a ≡ nowhere
fresh_place zero a = refl
fresh_place (suc n) zero = refl
fresh_place (suc n) (suc a) = fresh_place n a

pub fresh_sound : (plan : DiePlan) → AreSoundCells plan (fresh_cells plan)
fresh_sound plan = record {
  blocks = length-replicate plan.shape.blocks free_block;
  places = length-replicate plan.logical nowhere;
  within = λ b. omega (arith, filled b);
  placed = λ p q e. absurd (none-some q (sym (fresh_place plan.logical p) ∙ e));
  apart = λ p o q r e f x y. absurd (none-some q (sym (fresh_place plan.logical p) ∙ e));
  one_open = λ a b h k. absurd (omega (arith, filled a, h.0));
  erasing = λ b h. absurd (omega (arith, erasing b));
}
  where
    filled : (b : ℕ) → (block_at (fresh_cells plan) b).filled ≡ 0
    filled b = ap (λ (s : Block). s.filled) (fresh_block plan.shape.blocks b)

    erasing : (b : ℕ) → (block_at (fresh_cells plan) b).erasing ≡ 0
    erasing b = ap (λ (s : Block). s.erasing) (fresh_block plan.shape.blocks b)

-- nothing is in erase on a fresh die
pub fresh_idle : (plan : DiePlan) (b : ℕ) → (block_at (fresh_cells plan) b).erasing ≡ 0
fresh_idle plan b = ap (λ (s : Block). s.erasing) (fresh_block plan.shape.blocks b)
