use Rattle.std.proofs.Common.{◌≡◌, ◌++◌, take}
use Rattle.flashplan_terms_changes.specs.Alphas.{periods_text}
use Rattle.flashplan_terms_changes.proofs.alpha_texts.put_periods.Given as goal

abbrev pub invariant-loop-task : goal.invariant-loop-task
invariant-loop-task l = l.text.items ≡ l.initial.text.items ++ periods_text l.slot_us (take l.task-index l.tasks)
