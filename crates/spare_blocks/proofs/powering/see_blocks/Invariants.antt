use Rattle.std.proofs.Common.{◌≡◌, false}
use Rattle.spare_blocks.proofs.Seen.{AreSeenTo}
use Rattle.spare_blocks.proofs.powering.see_blocks.Given as goal

abbrev pub invariant-loop-block : goal.invariant-loop-block
invariant-loop-block g l = record {
  seen : AreSeenTo l.shape.pages l.block-counter (g.D.WearingNand.blocks l.initial.part) l.bad l.all.items;
  blocks : g.D.WearingNand.blocks l.part ≡ g.D.WearingNand.blocks l.initial.part;
  well : g.D.WearingNand.faulted l.part ≡ false;
  shape : g.D.WearingNand.shape_of l.part ≡ g.D.WearingNand.shape_of l.initial.part;
}
