use Rattle.std.proofs.Common.{◌≡◌, ◌++◌, drop}
use Rattle.std.specs.List.{enumerate_from}
use Rattle.flashplan_terms_changes.specs.Changes.{asked_of_tasks}
use Rattle.flashplan_terms_changes.proofs.asked_numbers.put_tasks.Given as goal

abbrev pub invariant-loop-place : goal.invariant-loop-place
invariant-loop-place l =
    l.asked.items ++ asked_of_tasks l.tasks (enumerate_from l.place (drop l.place l.tasks))
    ≡ l.initial.asked.items ++ asked_of_tasks l.tasks (enumerate_from 0 l.tasks)
