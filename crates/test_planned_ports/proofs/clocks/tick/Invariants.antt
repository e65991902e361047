use Rattle.std.proofs.Common.{◌≡◌}
use Rattle.test_planned_ports.proofs.clocks.tick.Given as goal

abbrev pub invariant-loop : goal.invariant-loop
invariant-loop g l = l.clock.lock ≡ l.fn.die
