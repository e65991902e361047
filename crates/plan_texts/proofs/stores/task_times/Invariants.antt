use Rattle.std.proofs.Common.{◌≡◌, ◌++◌, drop}
use Rattle.plan_texts.specs.Stores.{times_of_tasks}
use Rattle.plan_texts.proofs.stores.task_times.Given as goal

abbrev pub invariant-loop-task : goal.invariant-loop-task
invariant-loop-task l = l.times ++ times_of_tasks (drop l.task-index l.tasks) l.die ≡ times_of_tasks l.tasks l.die
