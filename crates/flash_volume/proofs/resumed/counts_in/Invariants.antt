use Rattle.std.proofs.Common.{◌≡◌, ℕ, ◌<◌, length, slice_index}
use Rattle.die_checkpoint.specs.Counts.{counts_at}
use Rattle.flash_volume.proofs.resumed.counts_in.Given as goal

abbrev pub invariant-loop-block : goal.invariant-loop-block
invariant-loop-block l = record {
  len : length l.counts.items ≡ length l.fills;
  so_far : (k : ℕ) → k < l.block → counts_at l.counts.items k
      ≡ record { filled = slice_index l.fills k; erases = slice_index l.erases k };
}
