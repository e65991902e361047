use Rattle.std.proofs.Common.{◌≡◌, List, ℕ, ◌++◌}
use Rattle.flashplan_terms_changes.specs.Alphas.{SaysDies}
use Rattle.flashplan_terms_changes.proofs.alpha_texts.put_dies.Given as goal

abbrev pub invariant-loop-die : goal.invariant-loop-die
invariant-loop-die l = (said : List ℕ) × SaysDies l.slot_us l.numbers l.alpha l.die said × (l.text.items ≡ l.initial.text.items ++ said)
