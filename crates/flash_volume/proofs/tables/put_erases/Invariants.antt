use Rattle.std.proofs.Common.{◌≡◌, ℕ, ◌<◌, length, slice_index}
use Rattle.die_checkpoint.specs.Counts.{counts_at}
use Rattle.flash_volume.proofs.tables.put_erases.Given as goal

abbrev pub invariant-loop-block : goal.invariant-loop-block
invariant-loop-block l = record {
  len : length l.erases ≡ length l.blocks;
  so_far : (k : ℕ) → k < l.block → slice_index l.erases k ≡ (counts_at l.blocks k).erases;
}
