use Rattle.std.proofs.Common.{◌≡◌, List, ℕ, ◌++◌}
use Rattle.flashplan_terms_design.specs.Explaining.{SaysAllMargins}
use Rattle.flashplan_terms_design.proofs.explained.put_all_changes.Given as goal

abbrev pub invariant-loop-die : goal.invariant-loop-die
invariant-loop-die l = (said : List ℕ) × SaysAllMargins l.slot_us l.numbers l.die said × (l.text.items ≡ l.initial.text.items ++ said)
