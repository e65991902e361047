-- The elements from a place on.
use Rattle.std.proofs.Common.{◌≡◌, ℕ, ◌+◌, ◌<◌, List, ◌∷◌, length, get_or, drop, drop-cons, suc, add-one, sym, ap, ◌∙◌}

-- the element of a place is the first of those that are left there
pub first_left : {X : Type 0} (xs : List X) (place : ℕ) (x : X) → place < length xs → x ≡ get_or xs place x
    → drop place xs ≡ x ∷ drop (place + 1) xs
first_left {X} xs place x below is =
    drop-cons xs place x below
    ∙ ap (λ (y : X). y ∷ drop (suc place) xs) (sym is)
    ∙ ap (λ (n : ℕ). x ∷ drop n xs) (sym (add-one place))
