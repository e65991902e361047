-- The terms of a task that the plan doesn't have.
use Rattle.std.proofs.Common.{◌≡◌, ℕ, zero, suc, List, [], ◌∷◌, None, get_or, refl}
use Rattle.std.specs.Prelude.{slice_get}
use Rattle.demand_rules.specs.declared.terms.TaskTerms.{TaskTerms}
use Rattle.demand_rules.specs.Demand.{no_terms}

pub none_there : (xs : List TaskTerms) (i : ℕ) → slice_get xs i ≡ None → no_terms ≡ get_or xs i no_terms
none_there [] i e = refl
none_there (x ∷ xs) zero e = absurd cc
none_there (x ∷ xs) (suc i) e = none_there xs i e
