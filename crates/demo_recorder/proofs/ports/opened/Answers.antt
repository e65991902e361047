use Rattle.demo_recorder.proofs.Handed.{ok_of}
use Rattle.demo_recorder.proofs.ports.opened.Goals as goal

pub of_three-requires-clause-clock : goal.of_three-requires-clause-clock
of_three-requires-clause-clock g c = ok_of _ c.open.result c.in_ok-opened.opened c.in_ok-opened.ensures c.open.ensures.clock

pub of_three-requires-clause-tasks : goal.of_three-requires-clause-tasks
of_three-requires-clause-tasks g c = ok_of _ c.open.result c.in_ok-opened.opened c.in_ok-opened.ensures c.open.ensures.own
