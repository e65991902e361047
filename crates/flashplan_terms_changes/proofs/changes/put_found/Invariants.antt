use Rattle.std.proofs.Common.{◌≡◌, List, ◌++◌, drop}
use Rattle.flashplan_terms_changes.specs.Changes.{AreFound}
use Rattle.flashplan_terms_changes.specs.declared.changes.Change.{Change}
use Rattle.flashplan_terms_changes.proofs.changes.put_found.Given as goal

abbrev pub invariant-loop-i : goal.invariant-loop-i
invariant-loop-i l = (more : List Change) × (l.changes.items ≡ l.initial.changes.items ++ more)
    × ((rest : List Change) → AreFound l.numbers (drop l.i l.asked) rest → AreFound l.numbers l.asked (more ++ rest))
