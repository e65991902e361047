use Rattle.std.proofs.Common.{◌≡◌}
use Rattle.std.specs.Prelude.{vec_capacity}
use Rattle.die_mount.specs.Told.{told_cells}
use Rattle.labelled_die.specs.Scanning.{cells_shown, IsSamePart}
use Rattle.labelled_die.proofs.scanning.look_at.Given as goal

abbrev pub invariant-loop-page : goal.invariant-loop-page
invariant-loop-page g l = record {
  cells : l.cells.items ≡ told_cells (cells_shown (g.N.LabelledNand.labels l.initial.part).blocks l.block l.page);
  room : vec_capacity l.cells ≡ vec_capacity l.initial.cells;
  same : IsSamePart g.N.Nand.shape_of g.N.Nand.failures g.N.Nand.blocks g.N.LabelledNand.labels l.initial.part l.part;
  lasts : g.N.LabelledNand.lasts l.initial.part → g.N.LabelledNand.lasts l.part;
}
