use Rattle.std.proofs.Common.{◌<◌, ℕ}
use Rattle.labelled_die.specs.Scanning.{IsSamePart}
use Rattle.power_loss.specs.Aside.{part_of}
use Rattle.power_loss.specs.Labels.{FitPlan}
use Rattle.device_mount.specs.Parts.{KeepsPage}
use Rattle.device_mount.proofs.undoing.keeps_pages.Given as goal

abbrev pub invariant-loop-page : goal.invariant-loop-page
invariant-loop-page g l = record {
  kept : (k : ℕ) → k < l.page → FitPlan (part_of l.plan) (g.N.LabelledNand.labels l.initial.part).blocks
      → KeepsPage (g.N.LabelledNand.labels l.initial.part).blocks l.without k;
  same : IsSamePart g.N.Nand.shape_of g.N.Nand.failures g.N.Nand.blocks g.N.LabelledNand.labels l.initial.part l.part;
  lasts : g.N.LabelledNand.lasts l.initial.part → g.N.LabelledNand.lasts l.part;
}
