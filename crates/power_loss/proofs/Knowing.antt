-- From which numbers a mount may count labels, a later one may.
use Rattle.std.proofs.Common.{◌≡◌, ◌≢◌, ◌⊎◌, ℕ, ◌<◌, ◌≤◌, List, [], ◌∷◌, length, Option, Some, None, refl, ap, sym, ◌∙◌}
use Rattle.std.proofs.Common.{subst, inl, inr, arith}
use Rattle.std.specs.Prelude.{sum_by}
use Rattle.std.proofs.lemmas.Bool.{cases_lt}
use Rattle.std.proofs.lemmas.Option.{same_Some}
use Rattle.slot_types.specs.Places.{place_of}
use Rattle.slot_types.specs.declared.plans.DiePlan.{DiePlan}
use Rattle.slot_types.specs.declared.pages.PageData.{PageData}
use Rattle.slot_types.specs.declared.pages.Place.{Place}
use Rattle.slot_types.specs.declared.acts.Act.{Act}
use Rattle.slot_types.specs.declared.acts.Act.TheVariants as does
use Rattle.die_log.specs.Model.Log.{Log, Carried}
use Rattle.die_log.specs.Model.Flash.{Cells, block_at, open_block, free_in, cells, contents, cells_after_program_in}
use Rattle.die_log.specs.Model.Flash.{cells_after_program, cells_after, ran_by}
use Rattle.die_log.specs.Model.Start.{Start}
use Rattle.die_log.specs.Model.Opening.{IsOpening}
use Rattle.die_log.specs.Model.Answers.{IsExact}
use Rattle.die_log.specs.Invariants.SoundCells.{IsClosed, IsUnplaced, AreSoundCells, IsProgram, IsTrim, HasFreePage}
use Rattle.die_log.proofs.Cells.Steps.{opens, open_is, program_is, step_is, within_blocks}
use Rattle.die_log.proofs.Legal.Exact.{stands_well, has_pages}
use Rattle.power_loss.specs.Labels.{Label, Labels, label_at, labels, labels_after_program, labels_after}
use Rattle.power_loss.specs.Labels.{AreLabelled, IsLabelled, MayCountFrom}
use Rattle.power_loss.specs.Recovery.{cells_of, labels_of}
use Rattle.power_loss.proofs.Aside.Untrimmed.{after_next}
use Rattle.power_loss.proofs.Carrying.{IsSoundCarried, carried_sound}
use Rattle.power_loss.proofs.Counting.{erase_back}
use Rattle.power_loss.proofs.Exact.{stands_labelled}
use Rattle.power_loss.proofs.Steps.{new_label, label_stays, new_stands}

-- the labels of placed pages count
abbrev pub CountPlaced : Cells → Labels → (ℕ → ℕ) → Type 0
CountPlaced c l known = (p : ℕ) (q : Place) (x : Label) → place_of c.places p ≡ Some q → label_at l.blocks q ≡ Some x → known p ≤ x.serial

program_placed : (plan : DiePlan) (page : ℕ) (bytes : PageData) (b : ℕ) (c : Cells) (l : Labels) (known : ℕ → ℕ) → b < length l.blocks
    → IsProgram plan page b c (cells_after_program_in page (Some b) c) → AreLabelled plan c l → known page ≤ l.next → CountPlaced c l known
    → CountPlaced (cells_after_program_in page (Some b) c) (labels_after_program page bytes (Some b) l) known
program_placed plan page bytes b c l known lt w h below k p q x e f = by_case (w.moved p q e)
  where
    by_case : ((p ≡ page) × (q.block ≡ b) × (q.page ≡ (block_at c b).filled)) ⊎ ((p ≢ page) × (place_of c.places p ≡ Some q)) → known p ≤ x.serial
    by_case (inl m) =
        let new : new_label page bytes l ≡ x = same_Some _ x (sym (new_stands page bytes b l lt q m.1 (m.2 ∙ sym (h.filled b w.room))) ∙ f) in
        let is : l.next ≡ x.serial = ap (λ (y : Label). y.serial) new in
        omega (arith, ap known m.0, below)
    by_case (inr m) =
        let n = h.newest p q m.1 in
        let same : n.label ≡ x = same_Some n.label x (sym (label_stays page bytes b l lt q n.label n.stands) ∙ f) in
        subst (λ (y : Label). known p ≤ y.serial) same (k p q n.label m.1 n.stands)

program_step : (plan : DiePlan) (page : ℕ) (bytes : PageData) (c : Cells) (l : Labels) (known : ℕ → ℕ) → 0 < plan.shape.pages → AreSoundCells plan c
    → 0 < sum_by (free_in plan) c.blocks → AreLabelled plan c l → known page ≤ l.next → CountPlaced c l known
    → CountPlaced (cells_after_program plan page c) (labels_after_program page bytes (open_block plan c) l) known
program_step plan page bytes c l known more s room h below k =
    let o = opens plan c room in
    let t = open_is plan c o.0 more s o.1 in
    let lt : o.0 < length l.blocks = omega (arith, h.blocks, t.stands) in
    subst (λ (x : Option ℕ). CountPlaced (cells_after_program_in page x c) (labels_after_program page bytes x l) known) (sym o.1)
    (program_placed plan page bytes o.0 c l known lt (program_is plan page o.0 c t.stands t.room t.alone) h below k)

step_placed : (plan : DiePlan) (n : ℕ) (act : Act) (c : Cells) (pages : List PageData) (l : Labels) (known : ℕ → ℕ) → 0 < plan.shape.pages
    → AreSoundCells plan c → HasFreePage plan c act → ((b : ℕ) → act ≡ does.Erase b → IsClosed plan c b × IsUnplaced c b) → AreLabelled plan c l
    → ((page : ℕ) → known page ≤ l.next) → CountPlaced c l known
    → CountPlaced (cells_after plan (Some (n, act)) c) (labels_after plan c pages (Some (n, act)) l) known
step_placed plan n (does.Read page bytes) c pages l known more s room ok h below k = k
step_placed plan n (does.Write page bytes) c pages l known more s room ok h below k = program_step plan page bytes c l known more s room h (below page) k
step_placed plan n (does.Trim page) c pages l known more s room ok h below k =
    let w : IsTrim page c (cells_after plan (Some (n, does.Trim page)) c) = step_is plan n (does.Trim page) c more s tt (λ b e. (ok b e).0) in
    λ p q x e f. k p q x (w.others p q e) f
step_placed plan n (does.CopyRead page) c pages l known more s room ok h below k = k
step_placed plan n (does.CopyProgram page) c pages l known more s room ok h below k = program_step plan page _ c l known more s room h (below page) k
step_placed plan n (does.Erase b) c pages l known more s room ok h below k =
    let closed : (block_at c b).filled ≡ plan.shape.pages = (ok b refl).0 in
    let stands : b < length c.blocks = within_blocks plan c b (omega arith) (cases_lt b (length c.blocks)) in
    λ p q x e f. k p q x e (erase_back plan (block_at c b) b l (omega (arith, h.blocks)) q x f)

-- so it is after each exact log
pub known_still : (start : Start) (first : Labels) → IsOpening start → IsLabelled start first → (known : ℕ → ℕ) → MayCountFrom start.cells first known
    → (log : Log) → IsExact start log → MayCountFrom (cells start log) (labels start first log) known
known_still start first bound labelled known h [] exact = h
known_still start first bound labelled known h (e ∷ past) exact =
    by_ran (ran_by e.reply) (carried_sound start bound e past exact) (known_still start first bound labelled known h past exact.0)
  where
    by_ran : (ran : Carried) → IsSoundCarried start past ran → MayCountFrom (cells start past) (labels start first past) known
        → MayCountFrom (cells_after start.plan ran (cells start past))
        (labels_after start.plan (cells start past) (contents start past) ran (labels start first past)) known
    by_ran None k before = before
    by_ran (Some (n, act)) k before = record {
      placed = step_placed start.plan n act (cells start past) (contents start past) (labels start first past) known
          (has_pages start.plan bound.bound) (stands_well start bound past exact.0).0.collects.sound k.room k.erases
          (stands_labelled start first bound labelled past exact.0).labelled before.below before.placed;
      below = λ page. omega (
        arith,
        before.below page,
        after_next start.plan (cells start past) (contents start past) (Some (n, act)) (labels start first past),
      );
    }

pub acts_next : (plan : DiePlan) (pages : List PageData) (acts : List Act) (c : Cells) (l : Labels) → l.next ≤ (labels_of plan pages acts c l).next
acts_next plan pages [] c l = omega arith
acts_next plan pages (act ∷ earlier) c l =
    omega (
      arith,
      acts_next plan pages earlier c l,
      after_next plan (cells_of plan earlier c) pages (Some (0, act)) (labels_of plan pages earlier c l),
    )
