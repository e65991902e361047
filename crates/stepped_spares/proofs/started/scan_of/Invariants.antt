use Rattle.std.proofs.Common.{◌≡◌, false, length}
use Rattle.stepped_spares.specs.Telling.{IsScanOf}
use Rattle.stepped_spares.proofs.started.scan_of.Given as goal

abbrev pub invariant-loop-block : goal.invariant-loop-block
invariant-loop-block g l = record {
  told : length l.scan.all ≡ l.block;
  shape_is : l.scan.shape ≡ l.shape;
  count_is : l.scan.blocks ≡ l.blocks;
  bad_is : l.scan.bad ≡ l.bad;
  scan : IsScanOf (g.D.WearingNand.blocks l.initial.part) l.scan;
  blocks : g.D.WearingNand.blocks l.part ≡ g.D.WearingNand.blocks l.initial.part;
  well : g.D.WearingNand.faulted l.part ≡ false;
  shape : g.D.WearingNand.shape_of l.part ≡ g.D.WearingNand.shape_of l.initial.part;
}
