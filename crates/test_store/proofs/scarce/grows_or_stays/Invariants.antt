use Rattle.std.proofs.Common.{◌≡◌}
use Rattle.test_store.proofs.scarce.grows_or_stays.Given as goal

abbrev pub invariant-loop : goal.invariant-loop
invariant-loop g l = l.pass.lock ≡ l.fn.die
