use Rattle.std.proofs.Common.{◌≡◌, List, ℕ, ◌++◌}
use Rattle.flashplan_terms_changes.specs.Alphas.{SaysAlphas}
use Rattle.flashplan_terms_changes.proofs.alpha_texts.put_alphas.Given as goal

abbrev pub invariant-loop-before : goal.invariant-loop-before
invariant-loop-before l = (said : List ℕ) × SaysAlphas l.slot_us l.numbers l.before said × (l.text.items ≡ l.initial.text.items ++ said)
