use Rattle.std.proofs.Common.{◌≢◌, ℕ, ◌<◌}
use Rattle.terms_texts.specs.Stores.{IsUsable, die_of}
use Rattle.flashplan_terms_changes.proofs.nearest.others_than.Given as goal

abbrev pub invariant-loop-die : goal.invariant-loop-die
invariant-loop-die l = (d : ℕ) → d < l.die → d ≢ l.name.die → IsUsable (die_of l.numbers d)
