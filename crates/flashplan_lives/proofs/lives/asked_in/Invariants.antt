use Rattle.std.proofs.Common.{◌≡◌, ◌*◌, ◌≤◌, sum_by, take}
use Rattle.flashplan_lives.specs.Lives.{asked_by}
use Rattle.flashplan_lives.proofs.lives.asked_in.Given as goal

abbrev pub invariant-loop-task : goal.invariant-loop-task
invariant-loop-task l = record {
  value : l.asked ≡ sum_by (asked_by l.slots) (take l.task-index l.tasks);
  within : l.asked ≤ l.task-index * 2097154;
}
