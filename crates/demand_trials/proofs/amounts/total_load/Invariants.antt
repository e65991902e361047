use Rattle.std.proofs.Common.{◌≡◌, ◌*◌, ◌≤◌, sum_by, take}
use Rattle.demand_rules.specs.Demand.{task_load}
use Rattle.demand_trials.proofs.amounts.total_load.Given as goal

abbrev pub invariant-loop-task : goal.invariant-loop-task
invariant-loop-task l = record {
  value : l.total ≡ sum_by (task_load l.plan) (take l.task-index l.tasks);
  within : l.total ≤ l.task-index * 1049152000000;
}
