use Rattle.std.proofs.Common.{◌≡◌, ◌*◌, ◌≤◌, sum_by, take}
use Rattle.demand_rules.specs.Demand.{task_demand_in}
use Rattle.flashplan_demand_pictures.proofs.amounts.total_demand.Given as goal

abbrev pub invariant-loop-task : goal.invariant-loop-task
invariant-loop-task l = record {
  value : l.total ≡ sum_by (task_demand_in l.plan l.slots) (take l.task-index l.tasks);
  within : l.total ≤ l.task-index * 1100116656704;
}
