use Rattle.std.proofs.Common.{◌≡◌, ℕ, List, ◌++◌, drop}
use Rattle.flashplan_terms_design.specs.Explaining.{ExplainsDies}
use Rattle.flashplan_terms_design.proofs.explained.put_dies.Given as goal

abbrev pub invariant-loop-die : goal.invariant-loop-die
invariant-loop-die l = (said : List ℕ) × (l.text.items ≡ l.initial.text.items ++ said)
    × ((rest : List ℕ) → ExplainsDies l.slot_us l.die (drop l.die l.dies) rest → ExplainsDies l.slot_us 0 l.dies (said ++ rest))
