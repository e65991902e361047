use Rattle.std.proofs.Common.{◌≡◌}
use Rattle.test_planned_ports.proofs.babblers.babble_on.Given as goal

abbrev pub invariant-loop : goal.invariant-loop
invariant-loop g l = l.port.lock ≡ l.fn.die
