use Rattle.std.proofs.Common.{◌≡◌, ◌≤◌, ℕ, length}
use Rattle.flash_die.specs.Flash.{block_at, free_block}
use Rattle.labelled_nand.specs.Memory.{device_blocks}
use Rattle.file_nand.proofs.opening.fill.Given as goal

abbrev pub invariant-loop-block : goal.invariant-loop-block
invariant-loop-block g l = record {
  count : length (device_blocks l.mirror) ≡ l.initial.mirror.shape.blocks;
  free : (b : ℕ) → l.block ≤ b → block_at (device_blocks l.mirror) b ≡ free_block;
  shape : l.mirror.shape ≡ l.initial.mirror.shape;
}
