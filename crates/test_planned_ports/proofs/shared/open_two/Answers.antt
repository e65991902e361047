use Rattle.test_planned_ports.proofs.Handed.{ok_of}
use Rattle.test_planned_ports.proofs.shared.open_two.Goals as goal

pub of_two-requires-clause-clock : goal.of_two-requires-clause-clock
of_two-requires-clause-clock g c = ok_of _ c.open.result c.in_ok-opened.opened c.in_ok-opened.ensures c.open.ensures.clock

pub of_two-requires-clause-tasks : goal.of_two-requires-clause-tasks
of_two-requires-clause-tasks g c = ok_of _ c.open.result c.in_ok-opened.opened c.in_ok-opened.ensures c.open.ensures.own
