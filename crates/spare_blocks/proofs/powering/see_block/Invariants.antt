use Rattle.std.proofs.Common.{◌≡◌, false}
use Rattle.spare_blocks.specs.Parts.{part_block}
use Rattle.spare_blocks.specs.Powering.{IsSeen}
use Rattle.spare_blocks.proofs.powering.see_block.Given as goal

abbrev pub invariant-loop-page : goal.invariant-loop-page
invariant-loop-page g l = record {
  seen : IsSeen (part_block (g.D.WearingNand.blocks l.initial.part) l.block) l.page l.seen;
  blocks : g.D.WearingNand.blocks l.part ≡ g.D.WearingNand.blocks l.initial.part;
  well : g.D.WearingNand.faulted l.part ≡ false;
  shape : g.D.WearingNand.shape_of l.part ≡ g.D.WearingNand.shape_of l.initial.part;
}
