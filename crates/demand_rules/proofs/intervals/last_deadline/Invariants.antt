use Rattle.std.proofs.Common.{◌<◌, take}
use Rattle.demand_rules.specs.Steady.{AreSteady}
use Rattle.demand_rules.proofs.intervals.last_deadline.Given as goal

abbrev pub invariant-loop-task : goal.invariant-loop-task
invariant-loop-task l = record {
  below : l.last < l.end;
  steady : AreSteady (take l.task-index l.tasks) l.last l.end;
}
