use Rattle.std.proofs.Common.{◌≡◌}
use Rattle.test_planned_ports.proofs.careful.ask_in_turn.Given as goal

abbrev pub invariant-loop-slot : goal.invariant-loop-slot
invariant-loop-slot g l = l.port.lock ≡ l.fn.die
