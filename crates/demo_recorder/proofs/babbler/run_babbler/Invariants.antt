use Rattle.std.proofs.Common.{◌≡◌}
use Rattle.demo_recorder.proofs.babbler.run_babbler.Given as goal

abbrev pub invariant-loop : goal.invariant-loop
invariant-loop g l = l.port.lock ≡ l.fn.die
