use Rattle.std.proofs.Common.{◌≡◌, ◌++◌, drop}
use Rattle.terms_texts.specs.Stores.{terms_of_tasks}
use Rattle.terms_texts.proofs.stores.task_terms.Given as goal

abbrev pub invariant-loop-task : goal.invariant-loop-task
invariant-loop-task l = l.terms ++ terms_of_tasks (drop l.task-index l.tasks) l.die ≡ terms_of_tasks l.tasks l.die
