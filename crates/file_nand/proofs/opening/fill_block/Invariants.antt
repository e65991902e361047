use Rattle.std.proofs.Common.{◌≡◌, ◌≢◌, ℕ, length}
use Rattle.flash_die.specs.Flash.{block_at}
use Rattle.labelled_nand.specs.Memory.{device_blocks}
use Rattle.file_nand.proofs.opening.fill_block.Given as goal

abbrev pub invariant-loop-page : goal.invariant-loop-page
invariant-loop-page g l = record {
  count : length (device_blocks l.mirror) ≡ length (device_blocks l.initial.mirror);
  filled : length (block_at (device_blocks l.mirror) l.block).pages ≡ l.page;
  quiet : (block_at (device_blocks l.mirror) l.block).erasing ≡ 0;
  unerased : (block_at (device_blocks l.mirror) l.block).erases ≡ 0;
  others : (b : ℕ) → b ≢ l.block → block_at (device_blocks l.mirror) b ≡ block_at (device_blocks l.initial.mirror) b;
  shape : l.mirror.shape ≡ l.initial.mirror.shape;
}
