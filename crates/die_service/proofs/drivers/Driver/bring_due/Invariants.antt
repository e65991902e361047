use Rattle.std.proofs.Common.{length}
use Rattle.die_service.proofs.Asking.{IsBringing}
use Rattle.die_service.proofs.drivers.Driver.bring_due.Given as goal

abbrev pub invariant-loop : goal.invariant-loop
invariant-loop g l = IsBringing g.W.Work.does l.clock l.fn.self l.self

abbrev pub decreases-loop : goal.decreases-loop
decreases-loop g l = length l.self.course.rest
