use Rattle.std.proofs.Common.{◌≡◌, ◌-◌, ◌<◌, ◌≤◌, ℕ, length}
use Rattle.flash_die.specs.Flash.{block_at, free_block}
use Rattle.labelled_nand.specs.Memory.{device_blocks}
use Rattle.file_nand.specs.Opened.{IsFilled, filled_on_part}
use Rattle.file_nand.proofs.opening.fill_saved.Given as goal

abbrev pub invariant-loop-block : goal.invariant-loop-block
invariant-loop-block g l = record {
  count : length (device_blocks l.mirror) ≡ l.initial.mirror.shape.blocks;
  filled : (b : ℕ) → b < l.block
      → IsFilled (filled_on_part (l.initial.mirror.shape.blocks - 1) l.saved.aside l.saved.checkpoint.blocks b) (block_at (device_blocks l.mirror) b);
  free : (b : ℕ) → l.block ≤ b → block_at (device_blocks l.mirror) b ≡ free_block;
  shape : l.mirror.shape ≡ l.initial.mirror.shape;
}
