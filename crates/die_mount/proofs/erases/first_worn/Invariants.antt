use Rattle.std.proofs.Common.{◌≤◌, ◌+◌, ◌<◌, ℕ}
use Rattle.die_checkpoint.specs.Counts.{most_erases}
use Rattle.die_mount.specs.Erases.{erases_of, most_mount_erases}
use Rattle.die_mount.proofs.erases.first_worn.Given as goal

abbrev pub invariant-loop-block : goal.invariant-loop-block
invariant-loop-block l = (b : ℕ) → b < l.block → erases_of l.told b + most_mount_erases l.plan ≤ most_erases
