use Rattle.std.proofs.Common.{◌≡◌}
use Rattle.demo_recorder.proofs.tasks.take_outcomes.Given as goal

abbrev pub invariant-loop : goal.invariant-loop
invariant-loop g l = l.port.lock ≡ l.fn.die
