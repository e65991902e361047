-- The front of a text, as it was read up to a limit.
use Rattle.std.proofs.Common.{◌≡◌, ℕ, List, [], ◌++◌, take, ap, subst, ◌∙◌, Option, Some, None}
use Rattle.std.specs.Prelude.{option_map, IfSome}
use Rattle.flashplan_keeping.specs.Verdicts.{IsFrontOf}

front_of : (left : Option (List ℕ)) (limit : ℕ) (old got : List ℕ) → old ≡ [] → limit ≡ 67108865
    → IfSome (option_map (take limit) left) (λ xs. got ≡ old ++ xs) → IsFrontOf left got
front_of None limit old got none at read = tt
front_of (Some bytes) limit old got none at read =
    read ∙ (ap (λ (l : List ℕ). l ++ take limit bytes) none ∙ ap (λ n. take n bytes) at)

pub front_read : (left whole : Option (List ℕ)) (limit : ℕ) (old got : List ℕ) → left ≡ whole → old ≡ [] → limit ≡ 67108865
    → IfSome (option_map (take limit) left) (λ xs. got ≡ old ++ xs) → IsFrontOf whole got
front_read left whole limit old got same none at read =
    subst (λ (text : Option (List ℕ)). IsFrontOf text got) same (front_of left limit old got none at read)
