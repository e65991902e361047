use Rattle.std.proofs.Common.{◌≡◌, ◌*◌, ◌≤◌, sum_by, take}
use Rattle.planned_log.specs.Lives.{task_arrivals}
use Rattle.planned_die.proofs.life.count.Given as goal

abbrev pub invariant-loop-task : goal.invariant-loop-task
invariant-loop-task l = record {
  value : l.total ≡ sum_by (task_arrivals l.slots) (take l.task-index l.tasks);
  within : l.total ≤ l.task-index * 1100000000000;
}
