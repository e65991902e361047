use Rattle.std.proofs.Common.{◌≤◌, All, take}
use Rattle.slot_types.specs.declared.limits.TheConstants.{MAX_SLOT}
use Rattle.demand_trials.specs.Repeats.{Divide}
use Rattle.demand_trials.proofs.repeats.common_of.Given as goal

abbrev pub invariant-loop-task : goal.invariant-loop-task
invariant-loop-task l = record {
  some : 1 ≤ l.common;
  within : l.common ≤ MAX_SLOT;
  divide : All (Divide l.common) (take l.task-index l.tasks);
}
