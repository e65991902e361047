use Rattle.std.proofs.Common.{◌≡◌, ◌≤◌, take}
use Rattle.std.specs.Prelude.{◌==◌, count_by}
use Rattle.terms_texts.specs.declared.numbers.TaskNumbers.{TaskNumbers}
use Rattle.flashplan_terms_changes.proofs.asked_numbers.count_on.Given as goal

abbrev pub invariant-loop-task : goal.invariant-loop-task
invariant-loop-task l = record {
  few : l.count ≤ l.task-index;
  is : l.count ≡ count_by (λ (task : TaskNumbers). task.die == l.die) (take l.task-index l.tasks);
}
