-- Keys made of pairs, in an order that reads their numbers as the pairs' order does.
use Rattle.std.proofs.Common.{◌≡◌, Bool, true, false, cond, refl, ap, ◌∙◌, List, [], ◌∷◌, map}
use Rattle.std.specs.List.{AllByRecursion}
use Rattle.due_queue.specs.Queue.{with_key, IsRising}

module _ {P K : Type 0} (before_pair : P → P → Bool) (before_key : K → K → Bool) (made : P → K) (same : (p q : P)
    → before_key (made p) (made q) ≡ before_pair p q) where
  pub map-inserted : (p : P) (ps : List P) → map made (with_key before_pair p ps) ≡ with_key before_key (made p) (map made ps)
  map-inserted p [] = refl
  map-inserted p (q ∷ qs) =
      rw (same p q)
      (elim (before_pair p q) as (λ v. map made (cond v (p ∷ q ∷ qs) (q ∷ with_key before_pair p qs))
      ≡ cond v (made p ∷ made q ∷ map made qs) (made q ∷ with_key before_key (made p) (map made qs)))
      [ true ↦ refl | false ↦ ap (λ l. made q ∷ l) (map-inserted p qs) ])

  every-map : (p : P) (qs : List P) → AllByRecursion (λ q. before_pair p q ≡ true) qs
      → AllByRecursion (λ k. before_key (made p) k ≡ true) (map made qs)
  every-map p [] all = tt
  every-map p (q ∷ qs) all = (same p q ∙ all.0, every-map p qs all.1)

  pub rising-map : (ps : List P) → IsRising before_pair ps → IsRising before_key (map made ps)
  rising-map [] rising = tt
  rising-map (p ∷ ps) rising = (every-map p ps rising.0, rising-map ps rising.1)
