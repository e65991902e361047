use Rattle.std.proofs.Common.{◌≡◌, ◌<◌, ◌≤◌, false, ℕ, length}
use Rattle.spare_blocks.specs.Parts.{part_block}
use Rattle.spare_blocks.specs.Preparing.{IsPrepared}
use Rattle.spare_blocks.proofs.prepare.prepare.Given as goal

abbrev pub invariant-loop-block : goal.invariant-loop-block
invariant-loop-block g l = record {
  uses : length l.table.uses ≡ l.block-counter;
  given : l.given ≡ length l.table.blocks;
  prepared : IsPrepared l.blocks l.bad l.table (g.D.WearingNand.blocks l.part);
  whole : (x : ℕ) → l.block-counter ≤ x → x < l.block-end → (part_block (g.D.WearingNand.blocks l.part) x).failed ≡ false;
  well : g.D.WearingNand.faulted l.part ≡ false;
  shape : g.D.WearingNand.shape_of l.part ≡ g.D.WearingNand.shape_of l.initial.part;
}
