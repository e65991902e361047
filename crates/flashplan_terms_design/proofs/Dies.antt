-- What is said of dies, one after the other.
use Rattle.std.proofs.Common.{ℕ, List, Option, ◌++◌, ◌+◌, ◌<◌, drop, length, get_or, refl, drop-cons, add-one}
use Rattle.terms_texts.specs.declared.stores.DieTerms.{DieTerms}
use Rattle.flashplan_terms_design.specs.Explaining.{ExplainsDie, ExplainsDies}

-- the die at a place, and then those after it
pub dies-from : (us : Option ℕ) (dies : List DieTerms) (die : ℕ) (d : DieTerms) (first rest : List ℕ) → die < length dies
    → ExplainsDie us die (get_or dies die d) first → ExplainsDies us (die + 1) (drop (die + 1) dies) rest
    → ExplainsDies us die (drop die dies) (first ++ rest)
dies-from us dies die d first rest below explained more =
    rw (drop-cons dies die d below) (first, rest, refl, explained, rw (add-one die) (rw (add-one die) at more))
