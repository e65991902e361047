use Rattle.std.proofs.Common.{◌≡◌}
use Rattle.demo_recorder.proofs.timer.run_timer.Given as goal

abbrev pub invariant-loop : goal.invariant-loop
invariant-loop g l = l.clock.lock ≡ l.fn.die
