use Rattle.std.proofs.Common.{◌≡◌, false, length}
use Rattle.spare_blocks.proofs.Tabled.{AreNumberedTo}
use Rattle.spare_blocks.proofs.powering.number_blocks.Given as goal

abbrev pub invariant-loop-block : goal.invariant-loop-block
invariant-loop-block g l = record {
  numbered : AreNumberedTo l.block-counter l.bad l.all l.table (g.D.WearingNand.blocks l.initial.part) (g.D.WearingNand.blocks l.part);
  well : g.D.WearingNand.faulted l.part ≡ false;
  shape : g.D.WearingNand.shape_of l.part ≡ g.D.WearingNand.shape_of l.initial.part;
}
