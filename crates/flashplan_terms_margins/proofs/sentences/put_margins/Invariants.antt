use Rattle.std.proofs.Common.{◌≡◌, ℕ, List, ◌++◌, drop}
use Rattle.flashplan_terms_margins.specs.MarginTexts.{SaysMargins}
use Rattle.flashplan_terms_margins.proofs.sentences.put_margins.Given as goal

abbrev pub invariant-loop-task : goal.invariant-loop-task
invariant-loop-task l = record {
  same : l.trial ≡ l.fn.made;
  said : (said : List ℕ) × (l.text.items ≡ l.initial.text.items ++ said)
      × ((rest : List ℕ) → SaysMargins l.slot_us l.fn.made l.die l.task (drop l.task l.fn.made.terms.tasks) rest
      → SaysMargins l.slot_us l.fn.made l.die 0 l.fn.made.terms.tasks (said ++ rest));
}
