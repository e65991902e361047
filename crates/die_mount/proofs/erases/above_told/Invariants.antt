use Rattle.std.proofs.Common.{◌≡◌, ◌≤◌, ◌^◌, take}
use Rattle.die_mount.specs.Erases.{above_told}
use Rattle.die_mount.proofs.erases.above_told.Given as goal

abbrev pub invariant-loop-block : goal.invariant-loop-block
invariant-loop-block l = (l.above ≡ above_told (take l.block l.told)) × (l.above ≤ 2 ^ 32)
