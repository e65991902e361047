use Rattle.std.proofs.Common.{◌≡◌, ℕ, List, ◌++◌, drop}
use Rattle.flashplan_terms_margins.specs.MarginTexts.{SaysCaps}
use Rattle.flashplan_terms_margins.proofs.sentences.put_caps.Given as goal

abbrev pub invariant-loop-task : goal.invariant-loop-task
invariant-loop-task l = record {
  same : l.trial ≡ l.fn.made;
  said : (said : List ℕ) × (l.text.items ≡ l.initial.text.items ++ said)
      × ((rest : List ℕ) → SaysCaps l.fn.made.plan l.die l.task (drop l.task l.fn.made.plan.caps) rest
      → SaysCaps l.fn.made.plan l.die 0 l.fn.made.plan.caps (said ++ rest));
}
