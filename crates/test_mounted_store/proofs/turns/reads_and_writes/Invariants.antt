use Rattle.std.proofs.Common.{◌≡◌}
use Rattle.test_mounted_store.proofs.turns.reads_and_writes.Given as goal

abbrev pub invariant-loop-bytes : goal.invariant-loop-bytes
invariant-loop-bytes g l = l.pass.lock ≡ l.fn.die
