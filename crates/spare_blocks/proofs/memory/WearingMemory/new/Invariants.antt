use Rattle.std.proofs.Common.{◌≡◌, map, replicate}
use Rattle.std.specs.Prelude.{All}
use Rattle.spare_blocks.specs.Parts.{free_part_block}
use Rattle.spare_blocks.specs.WearingView.{seen_block, IsSoundWearingBlock}
use Rattle.spare_blocks.proofs.memory.WearingMemory.new.Given as goal

abbrev pub invariant-loop : goal.invariant-loop
invariant-loop l = record {
  blocks : map seen_block l.blocks.items ≡ replicate l.counter free_part_block;
  sound : All (IsSoundWearingBlock l.shape.pages l.shape.erase_slots) l.blocks.items;
}
