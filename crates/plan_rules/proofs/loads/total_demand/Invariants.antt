use Rattle.std.proofs.Common.{◌≡◌, ◌*◌, ◌≤◌, sum_by, take}
use Rattle.plan_rules.specs.Times.{task_demand}
use Rattle.plan_rules.proofs.loads.total_demand.Given as goal

abbrev pub invariant-loop-task : goal.invariant-loop-task
invariant-loop-task l = record {
  value : l.total ≡ sum_by (task_demand l.plan l.common) (take l.task-index l.tasks);
  within : l.total ≤ l.task-index * 671088640;
}
