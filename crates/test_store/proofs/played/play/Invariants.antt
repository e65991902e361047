use Rattle.std.proofs.Common.{◌≡◌}
use Rattle.test_store.proofs.played.play.Given as goal

abbrev pub invariant-loop-place : goal.invariant-loop-place
invariant-loop-place g l = l.pass.lock ≡ l.fn.die
