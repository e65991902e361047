use Rattle.std.proofs.Common.{◌≡◌, drop, map, take}
use Rattle.std.specs.Prelude.{All}
use Rattle.spare_blocks.specs.Wearing.{closed_part_block}
use Rattle.spare_blocks.specs.WearingView.{seen_block, IsSoundWearingBlock}
use Rattle.spare_blocks.proofs.memory.WearingMemory.close_all.Given as goal

abbrev pub invariant-loop-block : goal.invariant-loop-block
invariant-loop-block l = record {
  closed : map seen_block (take l.block-index l.block-items)
      ≡ map (closed_part_block l.pages) (map seen_block (take l.block-index l.initial.block-items));
  left : drop l.block-index l.block-items ≡ drop l.block-index l.initial.block-items;
  sound : All (IsSoundWearingBlock l.pages l.fn.self.shape.erase_slots) l.block-items;
}
