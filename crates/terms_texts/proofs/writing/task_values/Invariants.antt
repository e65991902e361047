use Rattle.std.proofs.Common.{◌≡◌, ◌≤◌, Ok, length, take}
use Rattle.toml.specs.Data.{items_depth}
use Rattle.toml.specs.View.{items_view}
use Rattle.terms_texts.specs.TermsText.{tasks_of}
use Rattle.terms_texts.proofs.writing.task_values.Given as goal

abbrev pub invariant-loop-i : goal.invariant-loop-i
invariant-loop-i l = record {
  read : tasks_of 0 (items_view l.values.items) ≡ Ok (take l.i l.tasks);
  many : length l.values.items ≡ l.i;
  flat : items_depth (items_view l.values.items) ≤ 1;
}
