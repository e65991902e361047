use Rattle.die_service.proofs.Asking.{IsOnTime}
use Rattle.die_service.proofs.drivers.Driver.run.Given as goal

abbrev pub invariant-loop-done : goal.invariant-loop-done
invariant-loop-done g l = IsOnTime g.W.Work.does l.number l.from l.slots l._done l.clock l.fn.self l.self
