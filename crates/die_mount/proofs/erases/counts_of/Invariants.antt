use Rattle.std.proofs.Common.{◌≡◌, map}
use Rattle.std.specs.List.{range_with_len}
use Rattle.die_mount.specs.Erases.{counts_with}
use Rattle.die_mount.proofs.erases.counts_of.Given as goal

abbrev pub invariant-loop-block : goal.invariant-loop-block
invariant-loop-block l = l.counts.items ≡ map (counts_with l.told l.erased) (range_with_len 0 l.block)
