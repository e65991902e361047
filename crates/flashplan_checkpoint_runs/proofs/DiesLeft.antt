-- The dies from a place on.
use Rattle.std.proofs.Common.{◌≡◌, ℕ, ◌+◌, ◌<◌, List, ◌∷◌, length, get_or, drop, drop-cons, suc, add-one, sym, ap, ◌∙◌}
use Rattle.slot_core.specs.Core.{Core}

-- the die of a place is the first of those that are left there
pub first_left : {N : Type 0} (dies : List (Core N)) (place : ℕ) (die : Core N) → place < length dies → die ≡ get_or dies place die
    → drop place dies ≡ die ∷ drop (place + 1) dies
first_left {N} dies place die below is =
    drop-cons dies place die below
    ∙ ap (λ (d : Core N). d ∷ drop (suc place) dies) (sym is)
    ∙ ap (λ (n : ℕ). die ∷ drop n dies) (sym (add-one place))
