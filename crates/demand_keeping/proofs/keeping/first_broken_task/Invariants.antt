use Rattle.demand_keeping.specs.Breaches.{AreTasksKept}
use Rattle.demand_keeping.proofs.keeping.first_broken_task.Given as goal

abbrev pub invariant-loop-task : goal.invariant-loop-task
invariant-loop-task l = AreTasksKept l.terms l.task l.events
