use Rattle.std.proofs.Common.{◌≤◌, take}
use Rattle.std.specs.Prelude.{vec_capacity}
use Rattle.power_loss.specs.Aside.{part_of}
use Rattle.power_loss.specs.Recovery.{without_block}
use Rattle.die_mount.specs.Scanned.{IsScanOf}
use Rattle.labelled_die.specs.Scanning.{IsSamePart}
use Rattle.device_mount.proofs.undoing.scan_without.Given as goal

abbrev pub invariant-loop-block : goal.invariant-loop-block
invariant-loop-block g l = record {
  scan : IsScanOf (part_of l.plan) l.scan (take l.block (without_block l.without (g.N.LabelledNand.labels l.initial.part).blocks));
  room : l.plan.shape.pages ≤ vec_capacity l.cells;
  same : IsSamePart g.N.Nand.shape_of g.N.Nand.failures g.N.Nand.blocks g.N.LabelledNand.labels l.initial.part l.part;
  lasts : g.N.LabelledNand.lasts l.initial.part → g.N.LabelledNand.lasts l.part;
}
