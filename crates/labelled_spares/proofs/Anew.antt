-- A device that is made anew stands as what was seen of the one before.
use Rattle.std.proofs.Common.{◌≡◌, ℕ, ◌+◌, ◌<◌, List, length, get_or, ap, sym, ◌∙◌, arith}
use Rattle.std.specs.Prelude.{Option, None}
use Rattle.slot_types.specs.declared.pages.PageData.{PageData}
use Rattle.slot_types.specs.declared.pages.Place.{Place}
use Rattle.slot_types.specs.declared.plans.DiePlan.{DiePlan}
use Rattle.slot_types.specs.declared.plans.Shape.{Shape}
use Rattle.power_loss.specs.Aside.{StandsOnPart, part_of}
use Rattle.power_loss.specs.Labels.{Label, Shown, label_at}
use Rattle.spare_blocks.specs.Parts.{PartBlock, part_block}
use Rattle.spare_blocks.specs.Powering.{IsPoweredPart, IsPoweredSpared}
use Rattle.spare_blocks.specs.Spares.{Spared, plan_shape}
use Rattle.spare_blocks.specs.Tables.{on_part}
use Rattle.labelled_spares.specs.Labels.{block_labels, spared_labels}
use Rattle.labelled_spares.specs.Numbers.{AreRenumbered}
use Rattle.labelled_spares.specs.Shown.{MayShow}
use Rattle.labelled_spares.proofs.Found.{are_renumbered}
use Rattle.labelled_spares.proofs.Powered.{labels_of, labels_count}
use Rattle.labelled_spares.proofs.Renumbered.{mountable_there}

module _ {N : Type 0} (blocks : N → List PartBlock) (next : N → ℕ) (plan : DiePlan) (pages : List PageData) (from : ℕ → ℕ) (seen : Shown) (bad : List ℕ)
    (shown : List PartBlock) (part : Shape) (d : Spared N) (stands : StandsOnPart plan pages from seen)
    (may : MayShow (plan.shape.blocks + 1) bad seen shown) (up : IsPoweredPart part shown)
    (s : IsPoweredSpared blocks (plan_shape (plan.shape.blocks + 1) part) part shown bad d) where
  abbrev other : Shown
  other = (spared_labels blocks next d).blocks

  size : d.shape.blocks ≡ plan.shape.blocks + 1
  size = ap (λ (q : Shape). q.blocks) s.shape_is

  other_at : (c page : ℕ) → c < plan.shape.blocks + 1
      → label_at other (record { block = c; page = page }) ≡ get_or (block_labels (part_block shown (on_part d.table c))) page None
  other_at c page lt =
      ap (λ (l : List (Option Label)). get_or l page None) (labels_of blocks next d c (omega (arith, lt, size)))
      ∙ ap (λ (b : PartBlock). get_or (block_labels b) page None) (s.table.number c lt)

  pub stands_anew : StandsOnPart plan pages from other
  stands_anew = mountable_there (part_of plan) pages from seen other stands
      (are_renumbered (part_of plan) (plan_shape (plan.shape.blocks + 1) part) part bad d.table seen shown (blocks d.part) stands.fit s.table up.count may
      other stands.blocks (labels_count blocks next d ∙ size) other_at)
