-- That a key isn't in a list.
use Rattle.std.proofs.Common.{subst, List, Contains}
use Rattle.std.proofs.lemmas.List.Elements.{All-from_recursion}
use Rattle.std.specs.List.{AllByRecursion}

-- a key without what each of the list has
pub absent-every : {K : Type 0} (P : K → Type 0) (x : K) (zs : List K) → ¬ P x → AllByRecursion P zs → ¬ Contains zs x
absent-every P x zs lacks all = λ found. lacks (subst P found.2 (All-from_recursion P zs all found.0 x found.1))
