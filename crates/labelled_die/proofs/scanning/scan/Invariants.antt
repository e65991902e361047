use Rattle.std.proofs.Common.{◌<◌, ◌≤◌, ℕ}
use Rattle.std.specs.Prelude.{vec_capacity}
use Rattle.power_loss.specs.Aside.{part_of}
use Rattle.die_mount.specs.Scanned.{IsScanOf}
use Rattle.die_mount.specs.Told.{HaveFitLabels, told_cells}
use Rattle.labelled_die.specs.Scanning.{blocks_shown, cells_shown, IsSamePart, IsUntold}
use Rattle.labelled_die.proofs.scanning.scan.Given as goal

abbrev pub invariant-loop-block : goal.invariant-loop-block
invariant-loop-block g l = record {
  scan : IsScanOf (part_of l.plan) l.scan (blocks_shown (g.N.LabelledNand.labels l.initial.part).blocks l.plan.shape.pages l.block);
  fit : (b : ℕ) → b < l.block
      → HaveFitLabels l.plan.logical (told_cells (cells_shown (g.N.LabelledNand.labels l.initial.part).blocks b l.plan.shape.pages));
  untold : IsUntold l.scan.erases;
  room : l.plan.shape.pages ≤ vec_capacity l.cells;
  same : IsSamePart g.N.Nand.shape_of g.N.Nand.failures g.N.Nand.blocks g.N.LabelledNand.labels l.initial.part l.part;
  lasts : g.N.LabelledNand.lasts l.initial.part → g.N.LabelledNand.lasts l.part;
}
