-- One act keeps cells labelled.
use Rattle.std.proofs.Common.{◌≡◌, ◌≢◌, ◌⊎◌, ℕ, zero, suc, ◌+◌, ◌<◌, ◌==◌, Bool, true, false, cond, List, [], ◌∷◌, ◌++◌}
use Rattle.std.proofs.Common.{Option, Some}
use Rattle.std.proofs.Common.{refl, ap, sym, ◌∙◌, subst, inl, inr, arith, length, None, get_or, slice_set}
use Rattle.std.specs.Prelude.{sum_by}
use Rattle.std.proofs.lemmas.Bool.{cases_eq, cases_lt, eqb-true, eqb-false}
use Rattle.std.proofs.lemmas.Option.{same_Some, none-some}
use Rattle.std.proofs.lemmas.List.{length-set, length_push, get_or-set_same, get_or-set_other}
use Rattle.slot_types.specs.Places.{place_of}
use Rattle.slot_types.specs.declared.plans.DiePlan.{DiePlan}
use Rattle.slot_types.specs.declared.pages.PageData.{PageData}
use Rattle.slot_types.specs.declared.pages.Place.{Place}
use Rattle.slot_types.specs.declared.acts.Act.{Act}
use Rattle.slot_types.specs.declared.acts.Act.TheVariants as does
use Rattle.die_log.specs.Model.Flash.{Cells, Block, block_at, open_block, free_in, cells_after_program_in}
use Rattle.die_log.specs.Model.Flash.{cells_after_program, cells_after}
use Rattle.die_log.specs.Invariants.SoundCells.{IsClosed, IsUnplaced, AreSoundCells, IsProgram, IsTrim, IsEraseSlot}
use Rattle.die_log.specs.Invariants.SoundCells.{HasFreePage}
use Rattle.die_log.proofs.Cells.Acts.{in_block, trimmed_block, erase_places}
use Rattle.die_log.proofs.Cells.Steps.{opens, open_is, program_is, erase_slot_is, step_is, within_blocks}
use Rattle.power_loss.specs.Labels.{Label, Labels, Shown, FitPlan, labels_in, label_at, labels_after_program}
use Rattle.power_loss.specs.Labels.{labels_after_erase_slot, labels_after, Programs, IsNewest, AreLabelled}

-- Lists

abbrev at_cell : List (Option Label) → ℕ → Option Label
at_cell xs k = get_or xs k None

push_cases : (xs : List (Option Label)) (x y : Label) (k : ℕ) → at_cell (xs ++ Some x ∷ []) k ≡ Some y
    → ((k ≡ length xs) × (x ≡ y)) ⊎ (at_cell xs k ≡ Some y)
push_cases [] x y zero e = inl (refl, same_Some x y e)
push_cases [] x y (suc k) e = absurd (none-some y e)
push_cases (z ∷ xs) x y zero e = inr e
push_cases (z ∷ xs) x y (suc k) e = by_case (push_cases xs x y k e)
  where
    by_case : ((k ≡ length xs) × (x ≡ y)) ⊎ (at_cell xs k ≡ Some y)
        → ((suc k ≡ length (z ∷ xs)) × (x ≡ y)) ⊎ (at_cell xs k ≡ Some y)
    by_case (inl h) = inl (omega (arith, h.0), h.1)
    by_case (inr h) = inr h

push_keeps : (xs : List (Option Label)) (x y : Label) (k : ℕ) → at_cell xs k ≡ Some y → at_cell (xs ++ Some x ∷ []) k ≡ Some y
push_keeps [] x y k e = absurd (none-some y e)
push_keeps (z ∷ xs) x y zero e = e
push_keeps (z ∷ xs) x y (suc k) e = push_keeps xs x y k e

push_last : (xs : List (Option Label)) (x : Label) → at_cell (xs ++ Some x ∷ []) (length xs) ≡ Some x
push_last [] x = refl
push_last (z ∷ xs) x = push_last xs x

-- cell k of block b
abbrev pub cell : ℕ → ℕ → Place
cell b k = record { block = b; page = k }

-- a place is its block and its cell
pub same_place : (q r : Place) → q.block ≡ r.block → q.page ≡ r.page → q ≡ r
same_place q r x y = ap (λ b. cell b q.page) x ∙ ap (cell r.block) y

-- Programs

abbrev pub new_label : ℕ → PageData → Labels → Label
new_label page bytes l = record { page = page; serial = l.next; bytes = bytes }

at_pushed : (page : ℕ) (bytes : PageData) (b : ℕ) (l : Labels) (a : ℕ) → b < length l.blocks → a ≡ b
    → labels_in (labels_after_program page bytes (Some b) l).blocks a ≡ labels_in l.blocks b ++ Some (new_label page bytes l) ∷ []
at_pushed page bytes b l a lt is = ap (labels_in (labels_after_program page bytes (Some b) l).blocks) is ∙ get_or-set_same l.blocks b _ [] lt

pub at_other : (page : ℕ) (bytes : PageData) (b : ℕ) (l : Labels) (a : ℕ) → a ≢ b → labels_in (labels_after_program page bytes (Some b) l).blocks a ≡ labels_in l.blocks a
at_other page bytes b l a other = get_or-set_other l.blocks b a _ [] other

-- it is the new one, or was there before
abbrev pub IsNewOr : ℕ → PageData → ℕ → Labels → Place → Label → Type 0
IsNewOr page bytes b l q x = ((q.block ≡ b) × (q.page ≡ length (labels_in l.blocks b)) × (new_label page bytes l ≡ x)) ⊎ (label_at l.blocks q ≡ Some x)

pub label_cases : (page : ℕ) (bytes : PageData) (b : ℕ) (l : Labels) → b < length l.blocks → (q : Place) (x : Label)
    → label_at (labels_after_program page bytes (Some b) l).blocks q ≡ Some x
    → IsNewOr page bytes b l q x
label_cases page bytes b l lt q x e = by_block (cases_eq q.block b)
  where
    pushed : q.block ≡ b → ((q.page ≡ length (labels_in l.blocks b)) × (new_label page bytes l ≡ x)) ⊎ (at_cell (labels_in l.blocks b) q.page ≡ Some x)
        → IsNewOr page bytes b l q x
    pushed is (inl h) = inl (is, h.0, h.1)
    pushed is (inr h) = inr (ap (λ a. at_cell (labels_in l.blocks a) q.page) is ∙ h)

    by_block : (q.block ≡ b) ⊎ (q.block ≡ b → ⊥)
        → IsNewOr page bytes b l q x
    by_block (inl is) = pushed is (push_cases (labels_in l.blocks b) (new_label page bytes l) x q.page
        (ap (λ (xs : List (Option Label)). at_cell xs q.page) (sym (at_pushed page bytes b l q.block lt is)) ∙ e))
    by_block (inr other) = inr (ap (λ (xs : List (Option Label)). at_cell xs q.page) (sym (at_other page bytes b l q.block other)) ∙ e)

pub label_stays : (page : ℕ) (bytes : PageData) (b : ℕ) (l : Labels) → b < length l.blocks → (q : Place) (x : Label) → label_at l.blocks q ≡ Some x
    → label_at (labels_after_program page bytes (Some b) l).blocks q ≡ Some x
label_stays page bytes b l lt q x e = by_block (cases_eq q.block b)
  where
    by_block : (q.block ≡ b) ⊎ (q.block ≡ b → ⊥) → label_at (labels_after_program page bytes (Some b) l).blocks q ≡ Some x
    by_block (inl is) = ap (λ (xs : List (Option Label)). at_cell xs q.page) (at_pushed page bytes b l q.block lt is)
        ∙ push_keeps (labels_in l.blocks b) (new_label page bytes l) x q.page (sym (ap (λ a. at_cell (labels_in l.blocks a) q.page) is) ∙ e)
    by_block (inr other) = ap (λ (xs : List (Option Label)). at_cell xs q.page) (at_other page bytes b l q.block other) ∙ e

pub new_stands : (page : ℕ) (bytes : PageData) (b : ℕ) (l : Labels) → b < length l.blocks → (q : Place) → q.block ≡ b → q.page ≡ length (labels_in l.blocks b)
    → label_at (labels_after_program page bytes (Some b) l).blocks q ≡ Some (new_label page bytes l)
new_stands page bytes b l lt q is at =
    ap (λ (xs : List (Option Label)). at_cell xs q.page) (at_pushed page bytes b l q.block lt is)
    ∙ (ap (at_cell (labels_in l.blocks b ++ Some (new_label page bytes l) ∷ [])) at ∙ push_last (labels_in l.blocks b) (new_label page bytes l))

pushed_filled : (plan : DiePlan) (page : ℕ) (bytes : PageData) (b : ℕ) (c d : Cells) (l : Labels) → b < length l.blocks → IsProgram plan page b c d
    → AreLabelled plan c l → (a : ℕ) → (a ≡ b) ⊎ (a ≡ b → ⊥) → (block_at d a).filled < plan.shape.pages
    → length (labels_in (labels_after_program page bytes (Some b) l).blocks a) ≡ (block_at d a).filled
pushed_filled plan page bytes b c d l lt w h a (inl is) room =
    ap length (at_pushed page bytes b l a lt is)
    ∙ (length_push (labels_in l.blocks b) (Some (new_label page bytes l))
    ∙ (ap (λ (n : ℕ). n + 1) (h.filled b w.room) ∙ (sym w.filled ∙ ap (λ (x : ℕ). (block_at d x).filled) (sym is))))
pushed_filled plan page bytes b c d l lt w h a (inr other) room =
    let same : (block_at d a).filled ≡ (block_at c a).filled = ap (λ (s : Block). s.filled) (w.others a other) in
    ap length (at_other page bytes b l a other) ∙ (h.filled a (omega arith) ∙ sym same)

-- a program keeps cells labelled: the page's newest label is now the new one
pub program_labelled : (plan : DiePlan) (page : ℕ) (bytes : PageData) (b : ℕ) (c d : Cells) (l : Labels) → b < length c.blocks → page < plan.logical → IsProgram plan page b c d
    → AreLabelled plan c l → AreLabelled plan d (labels_after_program page bytes (Some b) l)
program_labelled plan page bytes b c d l stands own w h = record {
  fit = record {
    cells = λ q x e. cells_by q x (label_cases page bytes b l lt q x e);
    pages = λ q x e. pages_by q x (label_cases page bytes b l lt q x e);
    apart = λ q r x y e f. apart_by q r x y (label_cases page bytes b l lt q x e) (label_cases page bytes b l lt r y f);
  };
  blocks = length-set l.blocks b _ ∙ (h.blocks ∙ sym w.blocks);
  filled = λ a. pushed_filled plan page bytes b c d l lt w h a (cases_eq a b);
  below = λ q x e. below_by q x (label_cases page bytes b l lt q x e);
  newest = λ p q e. newest_by p q (w.moved p q e);
}
  where
    lt : b < length l.blocks
    lt = omega (arith, h.blocks)

    cells_by : (q : Place) (x : Label) → IsNewOr page bytes b l q x → q.page < plan.shape.pages
    cells_by q x (inl n) = omega (arith, n.1, h.filled b w.room, w.room)
    cells_by q x (inr o) = h.fit.cells q x o

    pages_by : (q : Place) (x : Label) → IsNewOr page bytes b l q x → x.page < plan.logical
    pages_by q x (inl n) = omega (arith, own, ap (λ (y : Label). y.page) n.2)
    pages_by q x (inr o) = h.fit.pages q x o

    apart_by : (q r : Place) (x y : Label) → IsNewOr page bytes b l q x → IsNewOr page bytes b l r y → x.serial ≡ y.serial → q ≡ r
    apart_by q r x y (inl n) (inl m) same = same_place q r (n.0 ∙ sym m.0) (n.1 ∙ sym m.1)
    apart_by q r x y (inl n) (inr o) same = absurd (omega (arith, same, ap (λ (z : Label). z.serial) n.2, h.below r y o))
    apart_by q r x y (inr o) (inl m) same = absurd (omega (arith, same, ap (λ (z : Label). z.serial) m.2, h.below q x o))
    apart_by q r x y (inr o) (inr k) same = h.fit.apart q r x y o k same

    below_by : (q : Place) (x : Label) → IsNewOr page bytes b l q x → x.serial < l.next + 1
    below_by q x (inl n) = let is : l.next ≡ x.serial = ap (λ (y : Label). y.serial) n.2 in omega arith
    below_by q x (inr o) = omega (arith, h.below q x o)

    newest_by : (p : ℕ) (q : Place) → ((p ≡ page) × (q.block ≡ b) × (q.page ≡ (block_at c b).filled)) ⊎ ((p ≢ page) × (place_of c.places p ≡ Some q))
        → IsNewest (labels_after_program page bytes (Some b) l).blocks p q
    newest_by p q (inl m) =
        let at : q.page ≡ length (labels_in l.blocks b) = m.2 ∙ sym (h.filled b w.room) in record {
          label = new_label page bytes l;
          stands = new_stands page bytes b l lt q m.1 at;
          own = sym m.0;
          newest = λ r x e own other. older r x other (label_cases page bytes b l lt r x e) at;
        }
      where
        older : (r : Place) (x : Label) → r ≢ q → IsNewOr page bytes b l r x → q.page ≡ length (labels_in l.blocks b) → x.serial < l.next
        older r x other (inl n) at = absurd (other (same_place r q (n.0 ∙ sym m.1) (n.1 ∙ sym at)))
        older r x other (inr o) at = h.below r x o
    newest_by p q (inr m) =
        let n = h.newest p q m.1 in record {
          label = n.label;
          stands = label_stays page bytes b l lt q n.label n.stands;
          own = n.own;
          newest = λ r x e own other. older n r x own other (label_cases page bytes b l lt r x e);
        }
      where
        older : (n : IsNewest l.blocks p q) (r : Place) (x : Label) → x.page ≡ p → r ≢ q → IsNewOr page bytes b l r x → x.serial < n.label.serial
        older n r x own other (inl k) = absurd (m.0 (sym own ∙ sym (ap (λ (y : Label). y.page) k.2)))
        older n r x own other (inr o) = n.newest r x o own other

-- Trims, and erase slots

-- where no page comes to a place, and each block is as filled
pub stays_labelled : (plan : DiePlan) (c d : Cells) (l : Labels) → length d.blocks ≡ length c.blocks → ((a : ℕ) → (block_at d a).filled ≡ (block_at c a).filled)
    → ((p : ℕ) (q : Place) → place_of d.places p ≡ Some q → place_of c.places p ≡ Some q) → AreLabelled plan c l → AreLabelled plan d l
stays_labelled plan c d l len same stays h = record {
  fit = h.fit;
  blocks = h.blocks ∙ sym len;
  filled = λ a room. h.filled a (omega (arith, same a)) ∙ sym (same a);
  below = h.below;
  newest = λ p q e. h.newest p q (stays p q e);
}

pub trim_labelled : (plan : DiePlan) (page : ℕ) (c d : Cells) (l : Labels) → IsTrim page c d → AreLabelled plan c l → AreLabelled plan d l
trim_labelled plan page c d l w h = stays_labelled plan c d l (ap length w.blocks) (λ a. ap (λ (s : Block). s.filled) (trimmed_block page c d w a)) w.others h

nothing_at : (k : ℕ) (x : Label) → at_cell [] k ≡ Some x → ⊥
nothing_at k x e = none-some x e

-- what is left where a block has no labels any longer
pub cleared_cases : (blocks : Shown) (b : ℕ) → b < length blocks → (q : Place) (x : Label) → label_at (slice_set blocks b []) q ≡ Some x
    → (q.block ≢ b) × (label_at blocks q ≡ Some x)
cleared_cases blocks b lt q x e = by_block (cases_eq q.block b)
  where
    by_block : (q.block ≡ b) ⊎ (q.block ≡ b → ⊥) → (q.block ≢ b) × (label_at blocks q ≡ Some x)
    by_block (inl is) =
        let none : labels_in (slice_set blocks b []) q.block ≡ [] = ap (labels_in (slice_set blocks b [])) is
        ∙ get_or-set_same blocks b [] [] lt in
        absurd (nothing_at q.page x (ap (λ (xs : List (Option Label)). at_cell xs q.page) (sym none) ∙ e))
    by_block (inr other) = (
      other,
      ap (λ (xs : List (Option Label)). at_cell xs q.page) (sym (get_or-set_other blocks b q.block [] [] other)) ∙ e,
    )

pub cleared_fit : (plan : DiePlan) (blocks : Shown) (b : ℕ) → b < length blocks → FitPlan plan blocks → FitPlan plan (slice_set blocks b [])
cleared_fit plan blocks b lt h = record {
  cells = λ q x e. h.cells q x (cleared_cases blocks b lt q x e).1;
  pages = λ q x e. h.pages q x (cleared_cases blocks b lt q x e).1;
  apart = λ q r x y e f. h.apart q r x y (cleared_cases blocks b lt q x e).1 (cleared_cases blocks b lt r y f).1;
}

pub cleared_stays : (blocks : Shown) (b : ℕ) (q : Place) (x : Label) → q.block ≢ b → label_at blocks q ≡ Some x
    → label_at (slice_set blocks b []) q ≡ Some x
cleared_stays blocks b q x other e = ap (λ (xs : List (Option Label)). at_cell xs q.page) (get_or-set_other blocks b q.block [] [] other) ∙ e

cleared_filled : (plan : DiePlan) (b : ℕ) (c d : Cells) (l : Labels) → b < length l.blocks → (block_at d b).filled ≡ 0 → IsEraseSlot plan b c d
    → AreLabelled plan c l → (a : ℕ) → (a ≡ b) ⊎ (a ≡ b → ⊥) → (block_at d a).filled < plan.shape.pages
    → length (labels_in (slice_set l.blocks b []) a) ≡ (block_at d a).filled
cleared_filled plan b c d l lt none w h a (inl is) room =
    ap length (ap (labels_in (slice_set l.blocks b [])) is ∙ get_or-set_same l.blocks b [] [] lt)
    ∙ (sym none ∙ ap (λ (x : ℕ). (block_at d x).filled) (sym is))
cleared_filled plan b c d l lt none w h a (inr other) room =
    let same : (block_at d a).filled ≡ (block_at c a).filled = ap (λ (s : Block). s.filled) (w.others a other) in
    ap length (get_or-set_other l.blocks b a [] [] other) ∙ (h.filled a (omega arith) ∙ sym same)

-- the end of an erase takes labels away, and none of a placed page's newest
erased_labelled : (plan : DiePlan) (b : ℕ) (c d : Cells) (l : Labels) → b < length c.blocks → (block_at d b).filled ≡ 0 → IsUnplaced c b
    → IsEraseSlot plan b c d → AreLabelled plan c l → AreLabelled plan d (record l { blocks = slice_set l.blocks b [] })
erased_labelled plan b c d l stands none unplaced w h = record {
  fit = cleared_fit plan l.blocks b lt h.fit;
  blocks = length-set l.blocks b _ ∙ (h.blocks ∙ sym w.blocks);
  filled = λ a. cleared_filled plan b c d l lt none w h a (cases_eq a b);
  below = λ q x e. h.below q x (cleared_cases l.blocks b lt q x e).1;
  newest = λ p q e.
      let before : place_of c.places p ≡ Some q = sym (erase_places plan b c d w p) ∙ e in
      let n = h.newest p q before in record {
        label = n.label;
        stands = cleared_stays l.blocks b q n.label (λ is. unplaced p (in_block c p b q before is)) n.stands;
        own = n.own;
        newest = λ r x f own other. n.newest r x (cleared_cases l.blocks b lt r x f).1 own other;
      };
}
  where
    lt : b < length l.blocks
    lt = omega (arith, h.blocks)

-- a slot of the erase of a block in which no page is placed keeps cells labelled
pub erase_labelled : (plan : DiePlan) (b : ℕ) (c d : Cells) (l : Labels) → b < length c.blocks → IsUnplaced c b → IsEraseSlot plan b c d → AreLabelled plan c l
    → AreLabelled plan d (labels_after_erase_slot plan (block_at c b) b l)
erase_labelled plan b c d l stands unplaced w h = by_test ((block_at c b).erasing + 1 == plan.shape.erase_slots) refl w.slot
  where
    filled_by : (a : ℕ) → (block_at d b).filled ≡ (block_at c b).filled → (a ≡ b) ⊎ (a ≡ b → ⊥) → (block_at d a).filled ≡ (block_at c a).filled
    filled_by a same (inl is) = rw is same
    filled_by a same (inr other) = ap (λ (s : Block). s.filled) (w.others a other)

    by_test : (t : Bool) → ((block_at c b).erasing + 1 == plan.shape.erase_slots) ≡ t
        → (((block_at c b).erasing + 1 ≡ plan.shape.erase_slots) × ((block_at d b).filled ≡ 0) × ((block_at d b).erasing ≡ 0))
        ⊎ (((block_at c b).erasing + 1 ≢ plan.shape.erase_slots) × ((block_at d b).filled ≡ (block_at c b).filled)
        × ((block_at d b).erasing ≡ (block_at c b).erasing + 1))
        → AreLabelled plan d (cond t (record l { blocks = slice_set l.blocks b [] }) l)
    by_test true e (inl k) = erased_labelled plan b c d l stands k.1 unplaced w h
    by_test true e (inr k) = absurd (k.0 (eqb-true ((block_at c b).erasing + 1) plan.shape.erase_slots e))
    by_test false e (inl k) = absurd (eqb-false ((block_at c b).erasing + 1) plan.shape.erase_slots e k.0)
    by_test false e (inr k) = stays_labelled plan c d l w.blocks (λ a. filled_by a k.1 (cases_eq a b))
        (λ p q x. sym (erase_places plan b c d w p) ∙ x) h

-- Steps

program_step : (plan : DiePlan) (page : ℕ) (bytes : PageData) (c : Cells) (l : Labels) → 0 < plan.shape.pages → AreSoundCells plan c
    → page < length c.places → 0 < sum_by (free_in plan) c.blocks → AreLabelled plan c l
    → AreLabelled plan (cells_after_program plan page c) (labels_after_program page bytes (open_block plan c) l)
program_step plan page bytes c l more s own room h =
    let o = opens plan c room in
    let k = open_is plan c o.0 more s o.1 in
    subst (λ (x : Option ℕ). AreLabelled plan (cells_after_program_in page x c) (labels_after_program page bytes x l)) (sym o.1)
    (program_labelled plan page bytes o.0 c (cells_after_program_in page (Some o.0) c) l k.stands (omega (arith, own, s.places)) (program_is plan page o.0 c k.stands k.room k.alone) h)

-- an act keeps cells labelled, if a program has a free page for one of the die's pages, and an erase slot is of a
-- closed block in which no page is placed
pub step_labelled : (plan : DiePlan) (n : ℕ) (act : Act) (c : Cells) (pages : List PageData) (l : Labels) → 0 < plan.shape.pages
    → AreSoundCells plan c → HasFreePage plan c act → ((page : ℕ) → Programs act page → page < length c.places)
    → ((b : ℕ) → act ≡ does.Erase b → IsClosed plan c b × IsUnplaced c b) → AreLabelled plan c l
    → AreLabelled plan (cells_after plan (Some (n, act)) c) (labels_after plan c pages (Some (n, act)) l)
step_labelled plan n (does.Read page bytes) c pages l more s room within ok h = h
step_labelled plan n (does.Write page bytes) c pages l more s room within ok h = program_step plan page bytes c l more s (within page refl) room h
step_labelled plan n (does.Trim page) c pages l more s room within ok h =
    trim_labelled plan page c _ l (step_is plan n (does.Trim page) c more s tt (λ b e. (ok b e).0)) h
step_labelled plan n (does.CopyRead page) c pages l more s room within ok h = h
step_labelled plan n (does.CopyProgram page) c pages l more s room within ok h = program_step plan page _ c l more s (within page refl) room h
step_labelled plan n (does.Erase b) c pages l more s room within ok h =
    let k = ok b refl in
    let closed : (block_at c b).filled ≡ plan.shape.pages = k.0 in
    let stands : b < length c.blocks = within_blocks plan c b (omega arith) (cases_lt b (length c.blocks)) in
    erase_labelled plan b c _ l stands k.1 (erase_slot_is plan b c stands) h
