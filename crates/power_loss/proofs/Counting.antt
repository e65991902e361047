-- One act keeps which labels count.
use Rattle.std.proofs.Common.{◌≡◌, ◌≢◌, ◌⊎◌, ℕ, ◌+◌, ◌<◌, ◌≤◌, ◌==◌, Bool, true, false, cond, List, [], ◌∷◌, Option}
use Rattle.std.proofs.Common.{Some, None, is_some}
use Rattle.std.proofs.Common.{refl, ap, sym, ◌∙◌, subst, inl, inr, arith, length, slice_set}
use Rattle.std.specs.Prelude.{sum_by, slice_index_or}
use Rattle.std.proofs.lemmas.Bool.{cases_eq, cases_lt, eq-eqb, ne_eqb}
use Rattle.std.proofs.lemmas.Option.{same_Some, none-some}
use Rattle.std.proofs.lemmas.List.{get_or-set_same, get_or-set_other}
use Rattle.slot_types.specs.Places.{place_of}
use Rattle.slot_types.specs.declared.plans.DiePlan.{DiePlan}
use Rattle.slot_types.specs.declared.pages.PageData.{PageData}
use Rattle.slot_types.specs.declared.pages.Place.{Place}
use Rattle.slot_types.specs.declared.acts.Act.{Act}
use Rattle.slot_types.specs.declared.acts.Act.TheVariants as does
use Rattle.die_log.specs.Model.Log.{Log, Carried}
use Rattle.die_log.specs.Model.Flash.{Cells, Block, block_at, open_block, free_in, cells, contents}
use Rattle.die_log.specs.Model.Flash.{cells_after_program_in, cells_after_program, cells_after, ran_by}
use Rattle.die_log.specs.Model.Start.{Start, blank_page}
use Rattle.die_log.specs.Invariants.SoundCells.{IsClosed, IsUnplaced, AreSoundCells, IsProgram, IsTrim, HasFreePage}
use Rattle.die_log.proofs.Cells.Steps.{opens, open_is, program_is, step_is, within_blocks}
use Rattle.power_loss.specs.Labels.{Label, Labels, label_at, Programs, labels, labels_after_program}
use Rattle.power_loss.specs.Labels.{labels_after_erase_slot, labels_after, counts_after, counts_from, AreLabelled}
use Rattle.power_loss.specs.Labels.{CountFrom}
use Rattle.power_loss.proofs.Steps.{new_label, IsNewOr, label_cases, label_stays, new_stands, cleared_cases}

abbrev nowhere : Option Place
nowhere = None

-- Programs

program_counts : (plan : DiePlan) (page : ℕ) (bytes : PageData) (b : ℕ) (c : Cells) (l : Labels) (from : ℕ → ℕ) → b < length l.blocks → page < length c.places
    → IsProgram plan page b c (cells_after_program_in page (Some b) c) → AreLabelled plan c l → from page ≤ l.next → CountFrom c l.blocks from
    → CountFrom (cells_after_program_in page (Some b) c) (labels_after_program page bytes (Some b) l).blocks from
program_counts plan page bytes b c l from lt stands w h below k = record {
  placed = λ p q x e f. placed_by p q x f (w.moved p q e);
  unplaced = λ p none r x e own. unplaced_by p none r x own (cases_eq p page) (label_cases page bytes b l lt r x e);
}
  where
    placed_by : (p : ℕ) (q : Place) (x : Label) → label_at (labels_after_program page bytes (Some b) l).blocks q ≡ Some x
        → ((p ≡ page) × (q.block ≡ b) × (q.page ≡ (block_at c b).filled)) ⊎ ((p ≢ page) × (place_of c.places p ≡ Some q)) → from p ≤ x.serial
    placed_by p q x f (inl m) =
        let new : new_label page bytes l ≡ x = same_Some _ x (sym (new_stands page bytes b l lt q m.1 (m.2 ∙ sym (h.filled b w.room))) ∙ f) in
        let at : l.next ≡ x.serial = ap (λ (y : Label). y.serial) new in
        omega (arith, ap from m.0)
    placed_by p q x f (inr m) =
        let n = h.newest p q m.1 in
        let same : n.label ≡ x = same_Some n.label x (sym (label_stays page bytes b l lt q n.label n.stands) ∙ f) in
        subst (λ (y : Label). from p ≤ y.serial) same (k.placed p q n.label m.1 n.stands)

    unplaced_by : (p : ℕ) → place_of (cells_after_program_in page (Some b) c).places p ≡ None → (r : Place) (x : Label) → x.page ≡ p
        → (p ≡ page) ⊎ (p ≡ page → ⊥) → IsNewOr page bytes b l r x → x.serial < from p
    unplaced_by p none r x own (inl is) new = absurd (none-some _ (sym none
        ∙ (ap (place_of (cells_after_program_in page (Some b) c).places) is ∙ get_or-set_same c.places page _ None stands)))
    unplaced_by p none r x own (inr other) (inl n) = absurd (other (sym own ∙ sym (ap (λ (y : Label). y.page) n.2)))
    unplaced_by p none r x own (inr other) (inr o) = k.unplaced p (sym (get_or-set_other c.places page p _ None other) ∙ none) r x o own

program_step : (plan : DiePlan) (page : ℕ) (bytes : PageData) (c : Cells) (l : Labels) (from : ℕ → ℕ) → 0 < plan.shape.pages → AreSoundCells plan c
    → 0 < sum_by (free_in plan) c.blocks → page < length c.places → AreLabelled plan c l → from page ≤ l.next → CountFrom c l.blocks from
    → CountFrom (cells_after_program plan page c) (labels_after_program page bytes (open_block plan c) l).blocks from
program_step plan page bytes c l from more s room stands h below k =
    let o = opens plan c room in
    let t = open_is plan c o.0 more s o.1 in
    let lt : o.0 < length l.blocks = omega (arith, h.blocks, t.stands) in
    subst (λ (x : Option ℕ). CountFrom (cells_after_program_in page x c) (labels_after_program page bytes x l).blocks from) (sym o.1)
    (program_counts plan page bytes o.0 c l from lt stands (program_is plan page o.0 c t.stands t.room t.alone) h below k)

-- Trims

trim_counts : (plan : DiePlan) (page : ℕ) (c : Cells) (l : Labels) (from : ℕ → ℕ) (n : ℕ) → IsTrim page c (record c { places = slice_set c.places page None })
    → AreLabelled plan c l → CountFrom c l.blocks from
    → CountFrom (record c { places = slice_set c.places page None }) l.blocks (λ p. counts_after p l.next (Some (n, does.Trim page)) (from p))
trim_counts plan page c l from n w h k = record {
  placed = λ p q x e f. placed_by p q x e f (cases_eq page p);
  unplaced = λ p none r x e own. unplaced_by p none r x e own (cases_eq page p);
}
  where
    placed_by : (p : ℕ) (q : Place) (x : Label) → place_of (slice_set c.places page nowhere) p ≡ Some q → label_at l.blocks q ≡ Some x
        → (page ≡ p) ⊎ (page ≡ p → ⊥) → cond (page == p) l.next (from p) ≤ x.serial
    placed_by p q x e f (inl is) = absurd (none-some q (sym w.gone ∙ (ap (place_of (slice_set c.places page nowhere)) is ∙ e)))
    placed_by p q x e f (inr other) = rw (ne_eqb page p other) (k.placed p q x (w.others p q e) f)

    unplaced_by : (p : ℕ) → place_of (slice_set c.places page nowhere) p ≡ None → (r : Place) (x : Label) → label_at l.blocks r ≡ Some x → x.page ≡ p
        → (page ≡ p) ⊎ (page ≡ p → ⊥) → x.serial < cond (page == p) l.next (from p)
    unplaced_by p none r x e own (inl is) = rw (eq-eqb page p is) (h.below r x e)
    unplaced_by p none r x e own (inr other) = rw (ne_eqb page p other)
        (k.unplaced p (sym (get_or-set_other c.places page p nowhere None (λ is. other (sym is))) ∙ none) r x e own)

-- Erases

-- a label after an erase slot was there before
pub erase_back : (plan : DiePlan) (s : Block) (b : ℕ) (l : Labels) → b < length l.blocks → (q : Place) (x : Label)
    → label_at (labels_after_erase_slot plan s b l).blocks q ≡ Some x → label_at l.blocks q ≡ Some x
erase_back plan s b l lt q x e = by_test (s.erasing + 1 == plan.shape.erase_slots) e
  where
    by_test : (t : Bool) → label_at (cond t (record l { blocks = slice_set l.blocks b [] }) l).blocks q ≡ Some x → label_at l.blocks q ≡ Some x
    by_test true f = (cleared_cases l.blocks b lt q x f).1
    by_test false f = f

erase_counts : (plan : DiePlan) (b : ℕ) (c d : Cells) (l : Labels) (from : ℕ → ℕ) → b < length l.blocks → d.places ≡ c.places → CountFrom c l.blocks from
    → CountFrom d (labels_after_erase_slot plan (block_at c b) b l).blocks from
erase_counts plan b c d l from lt same k = record {
  placed = λ p q x e f. k.placed p q x (sym (at p) ∙ e) (erase_back plan (block_at c b) b l lt q x f);
  unplaced = λ p none r x f own. k.unplaced p (sym (at p) ∙ none) r x (erase_back plan (block_at c b) b l lt r x f) own;
}
  where
    at : (p : ℕ) → place_of d.places p ≡ place_of c.places p
    at p = ap (λ (ps : List (Option Place)). place_of ps p) same

-- Steps

-- an act keeps which labels count, if a program has a free page for one of the die's pages, and an erase slot is of a
-- closed block
pub step_counts : (plan : DiePlan) (n : ℕ) (act : Act) (c : Cells) (pages : List PageData) (l : Labels) (from : ℕ → ℕ) → 0 < plan.shape.pages
    → AreSoundCells plan c → HasFreePage plan c act → ((page : ℕ) → Programs act page → page < length c.places)
    → ((b : ℕ) → act ≡ does.Erase b → IsClosed plan c b × IsUnplaced c b) → AreLabelled plan c l → ((page : ℕ) → from page ≤ l.next)
    → CountFrom c l.blocks from
    → CountFrom (cells_after plan (Some (n, act)) c) (labels_after plan c pages (Some (n, act)) l).blocks
    (λ page. counts_after page l.next (Some (n, act)) (from page))
step_counts plan n (does.Read page bytes) c pages l from more s room within ok h below k = k
step_counts plan n (does.Write page bytes) c pages l from more s room within ok h below k =
    program_step plan page bytes c l from more s room (within page refl) h (below page) k
step_counts plan n (does.Trim page) c pages l from more s room within ok h below k = trim_counts plan page c l from n
    (step_is plan n (does.Trim page) c more s tt (λ b e. (ok b e).0)) h k
step_counts plan n (does.CopyRead page) c pages l from more s room within ok h below k = k
step_counts plan n (does.CopyProgram page) c pages l from more s room within ok h below k =
    program_step plan page _ c l from more s room (within page refl) h (below page) k
step_counts plan n (does.Erase b) c pages l from more s room within ok h below k =
    let closed : (block_at c b).filled ≡ plan.shape.pages = (ok b refl).0 in
    let stands : b < length c.blocks = within_blocks plan c b (omega arith) (cases_lt b (length c.blocks)) in
    erase_counts plan b c _ l from (omega (arith, h.blocks)) refl k

-- The numbers

pub after_below : (page : ℕ) (plan : DiePlan) (c : Cells) (pages : List PageData) (l : Labels) (ran : Carried) (before : ℕ) → before ≤ l.next
    → counts_after page l.next ran before ≤ (labels_after plan c pages ran l).next
after_below page plan c pages l None before h = h
after_below page plan c pages l (Some (n, does.Read p bytes)) before h = h
after_below page plan c pages l (Some (n, does.Write p bytes)) before h = more (open_block plan c)
  where
    more : (o : Option ℕ) → before ≤ (labels_after_program p bytes o l).next
    more None = h
    more (Some b) = omega (arith, h)
after_below page plan c pages l (Some (n, does.Trim p)) before h = by_test (p == page)
  where
    by_test : (t : Bool) → cond t l.next before ≤ l.next
    by_test true = omega arith
    by_test false = h
after_below page plan c pages l (Some (n, does.CopyRead p)) before h = h
after_below page plan c pages l (Some (n, does.CopyProgram p)) before h = more (open_block plan c)
  where
    more : (o : Option ℕ) → before ≤ (labels_after_program p (slice_index_or pages p blank_page) o l).next
    more None = h
    more (Some b) = omega (arith, h)
after_below page plan c pages l (Some (n, does.Erase b)) before h = by_test ((block_at c b).erasing + 1 == plan.shape.erase_slots)
  where
    by_test : (t : Bool) → before ≤ (cond t (record l { blocks = slice_set l.blocks b [] }) l).next
    by_test true = h
    by_test false = h

-- a label counts from the next program's number at most
pub counts_below : (start : Start) (first : Labels) (log : Log) (page : ℕ) → counts_from start first log page ≤ (labels start first log).next
counts_below start first [] page = by_test (is_some (place_of start.cells.places page))
  where
    by_test : (t : Bool) → cond t 0 first.next ≤ first.next
    by_test true = omega arith
    by_test false = omega arith
counts_below start first (e ∷ past) page =
    after_below page start.plan (cells start past) (contents start past) (labels start first past) (ran_by e.reply) (counts_from start first past page)
    (counts_below start first past page)

-- where a log begins, the labels of placed pages count
pub first_count : (start : Start) (first : Labels) → AreLabelled start.plan start.cells first → CountFrom start.cells first.blocks (counts_from start first [])
first_count start first h = record {
  placed = λ page q x e f. subst (λ (o : Option Place). cond (is_some o) 0 first.next ≤ x.serial) (sym e) (omega arith);
  unplaced = λ page none r x e own. subst (λ (o : Option Place). x.serial < cond (is_some o) 0 first.next) (sym none) (h.below r x e);
}
