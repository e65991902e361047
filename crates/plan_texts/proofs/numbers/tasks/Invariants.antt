use Rattle.std.proofs.Common.{◌≡◌, drop}
use Rattle.toml.specs.View.{items_view}
use Rattle.plan_texts.specs.PlanText.{with_front, tasks_of}
use Rattle.plan_texts.proofs.numbers.tasks.Given as goal

abbrev pub invariant-loop-i : goal.invariant-loop-i
invariant-loop-i l = with_front l.tasks (tasks_of l.timed (items_view (drop l.i l.tables))) ≡ tasks_of l.timed (items_view l.tables)
