use Rattle.std.proofs.Common.{◌≤◌, All, take}
use Rattle.slot_types.specs.declared.limits.TheConstants.{MAX_SLOT}
use Rattle.demand_trials.specs.Repeats.{AreDueBy}
use Rattle.demand_trials.proofs.repeats.last_deadline.Given as goal

abbrev pub invariant-loop-task : goal.invariant-loop-task
invariant-loop-task l = record {
  within : l.last ≤ MAX_SLOT;
  due : All (AreDueBy l.last) (take l.task-index l.tasks);
}
