use Rattle.std.proofs.Common.{◌≡◌, drop}
use Rattle.toml.specs.View.{items_view}
use Rattle.terms_texts.specs.TermsText.{with_front, tasks_of}
use Rattle.terms_texts.proofs.numbers.tasks.Given as goal

abbrev pub invariant-loop-i : goal.invariant-loop-i
invariant-loop-i l = with_front l.tasks (tasks_of l.i (items_view (drop l.i l.tables))) ≡ tasks_of 0 (items_view l.tables)
