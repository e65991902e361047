use Rattle.std.proofs.Common.{◌<◌, ℕ}
use Rattle.die_mount.specs.Beginning.{IsIdleIn}
use Rattle.die_mount.proofs.scan.Scan.idle_block.Given as goal

abbrev pub invariant-loop-block : goal.invariant-loop-block
invariant-loop-block l = (b : ℕ) → b < l.block → IsIdleIn l.self b → ⊥
