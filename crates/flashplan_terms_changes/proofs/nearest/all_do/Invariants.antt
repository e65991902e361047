use Rattle.std.proofs.Common.{ℕ, ◌<◌}
use Rattle.terms_texts.specs.Stores.{IsUsable, die_of}
use Rattle.flashplan_terms_changes.specs.Changes.{with_number}
use Rattle.flashplan_terms_changes.proofs.nearest.all_do.Given as goal

abbrev pub invariant-loop-die : goal.invariant-loop-die
invariant-loop-die l = (d : ℕ) → d < l.die → IsUsable (with_number l.which (die_of l.numbers d) 0 l.n)
