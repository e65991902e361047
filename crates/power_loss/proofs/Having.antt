-- One act keeps the bytes of the cells in which pages are placed.
use Rattle.std.proofs.Common.{◌≡◌, ◌≢◌, ◌⊎◌, ℕ, ◌<◌, List, Option, Some, refl, ap, sym, ◌∙◌, subst, inl, inr, arith}
use Rattle.std.proofs.Common.{length, get_or, slice_set}
use Rattle.std.specs.Prelude.{sum_by}
use Rattle.std.proofs.lemmas.Bool.{cases_eq, cases_lt}
use Rattle.std.proofs.lemmas.Option.{same_Some, none-some}
use Rattle.std.proofs.lemmas.List.{get_or-set_same, get_or-set_other}
use Rattle.slot_types.specs.Places.{place_of}
use Rattle.slot_types.specs.declared.plans.DiePlan.{DiePlan}
use Rattle.slot_types.specs.declared.pages.PageData.{PageData}
use Rattle.slot_types.specs.declared.acts.Act.{Act}
use Rattle.slot_types.specs.declared.acts.Act.TheVariants as does
use Rattle.die_log.specs.Model.Flash.{Cells, block_at, open_block, free_in, cells_after_program_in, cells_after_program}
use Rattle.die_log.specs.Model.Flash.{cells_after, contents_after}
use Rattle.die_log.specs.Model.Start.{blank_page}
use Rattle.die_log.specs.Invariants.SoundCells.{IsClosed, IsUnplaced, AreSoundCells, IsProgram, IsTrim, HasFreePage}
use Rattle.die_log.proofs.Cells.Steps.{opens, open_is, program_is, step_is, within_blocks}
use Rattle.power_loss.specs.Labels.{Label, Labels, Programs, labels_after_program, labels_after, AreLabelled, HaveBytes}
use Rattle.power_loss.proofs.Counting.{erase_back}
use Rattle.power_loss.proofs.Steps.{new_label, label_stays, new_stands}

abbrev bytes_of : List PageData → ℕ → PageData
bytes_of pages page = get_or pages page blank_page

program_has : (plan : DiePlan) (page : ℕ) (bytes : PageData) (b : ℕ) (c : Cells) (l : Labels) (pages after : List PageData) → b < length l.blocks
    → IsProgram plan page b c (cells_after_program_in page (Some b) c) → AreLabelled plan c l → bytes_of after page ≡ bytes
    → ((p : ℕ) → p ≢ page → bytes_of after p ≡ bytes_of pages p) → HaveBytes c l.blocks pages
    → HaveBytes (cells_after_program_in page (Some b) c) (labels_after_program page bytes (Some b) l).blocks after
program_has plan page bytes b c l pages after lt w h own others k p q x e f = by_case (w.moved p q e)
  where
    by_case : ((p ≡ page) × (q.block ≡ b) × (q.page ≡ (block_at c b).filled)) ⊎ ((p ≢ page) × (place_of c.places p ≡ Some q))
        → x.bytes ≡ bytes_of after p
    by_case (inl m) =
        let new : new_label page bytes l ≡ x = same_Some _ x (sym (new_stands page bytes b l lt q m.1 (m.2 ∙ sym (h.filled b w.room))) ∙ f) in
        sym (ap (λ (y : Label). y.bytes) new) ∙ (sym own ∙ ap (bytes_of after) (sym m.0))
    by_case (inr m) =
        let n = h.newest p q m.1 in
        let same : n.label ≡ x = same_Some n.label x (sym (label_stays page bytes b l lt q n.label n.stands) ∙ f) in
        sym (ap (λ (y : Label). y.bytes) same) ∙ (k p q n.label m.1 n.stands ∙ sym (others p m.0))

program_step : (plan : DiePlan) (page : ℕ) (bytes : PageData) (c : Cells) (l : Labels) (pages after : List PageData) → 0 < plan.shape.pages
    → AreSoundCells plan c → 0 < sum_by (free_in plan) c.blocks → AreLabelled plan c l → bytes_of after page ≡ bytes
    → ((p : ℕ) → p ≢ page → bytes_of after p ≡ bytes_of pages p) → HaveBytes c l.blocks pages
    → HaveBytes (cells_after_program plan page c) (labels_after_program page bytes (open_block plan c) l).blocks after
program_step plan page bytes c l pages after more s room h own others k =
    let o = opens plan c room in
    let t = open_is plan c o.0 more s o.1 in
    let lt : o.0 < length l.blocks = omega (arith, h.blocks, t.stands) in
    subst (λ (x : Option ℕ). HaveBytes (cells_after_program_in page x c) (labels_after_program page bytes x l).blocks after) (sym o.1)
    (program_has plan page bytes o.0 c l pages after lt (program_is plan page o.0 c t.stands t.room t.alone) h own others k)

trim_has : (page : ℕ) (c d : Cells) (l : Labels) (pages : List PageData) → IsTrim page c d → HaveBytes c l.blocks pages
    → HaveBytes d l.blocks (slice_set pages page blank_page)
trim_has page c d l pages w k p q x e f = by_case (cases_eq p page)
  where
    by_case : (p ≡ page) ⊎ (p ≡ page → ⊥) → x.bytes ≡ bytes_of (slice_set pages page blank_page) p
    by_case (inl is) = absurd (none-some q (sym w.gone ∙ (ap (place_of d.places) (sym is) ∙ e)))
    by_case (inr other) = k p q x (w.others p q e) f ∙ sym (get_or-set_other pages page p blank_page blank_page other)

-- an act keeps the bytes, if a program has a free page for one of the die's pages, and an erase slot is of a closed
-- block
pub step_has : (plan : DiePlan) (n : ℕ) (act : Act) (c : Cells) (pages : List PageData) (l : Labels) → 0 < plan.shape.pages
    → AreSoundCells plan c → HasFreePage plan c act → ((page : ℕ) → Programs act page → page < length pages)
    → ((b : ℕ) → act ≡ does.Erase b → IsClosed plan c b × IsUnplaced c b) → AreLabelled plan c l → HaveBytes c l.blocks pages
    → HaveBytes (cells_after plan (Some (n, act)) c) (labels_after plan c pages (Some (n, act)) l).blocks (contents_after (Some (n, act)) pages)
step_has plan n (does.Read page bytes) c pages l more s room within ok h k = k
step_has plan n (does.Write page bytes) c pages l more s room within ok h k =
    program_step plan page bytes c l pages (slice_set pages page bytes) more s room h
    (get_or-set_same pages page bytes blank_page (within page refl))
    (λ p other. get_or-set_other pages page p bytes blank_page other) k
step_has plan n (does.Trim page) c pages l more s room within ok h k =
    trim_has page c _ l pages (step_is plan n (does.Trim page) c more s tt (λ b e. (ok b e).0)) k
step_has plan n (does.CopyRead page) c pages l more s room within ok h k = k
step_has plan n (does.CopyProgram page) c pages l more s room within ok h k =
    program_step plan page (bytes_of pages page) c l pages pages more s room h refl (λ p other. refl) k
step_has plan n (does.Erase b) c pages l more s room within ok h k =
    let closed : (block_at c b).filled ≡ plan.shape.pages = (ok b refl).0 in
    let stands : b < length c.blocks = within_blocks plan c b (omega arith) (cases_lt b (length c.blocks)) in
    λ p q x e f. k p q x e (erase_back plan (block_at c b) b l (omega (arith, h.blocks)) q x f)
