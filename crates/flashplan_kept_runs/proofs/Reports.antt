-- The dies from a place on, as a report takes them.
use Rattle.std.proofs.Common.{◌≡◌, ℕ, zero, suc, ◌+◌, ◌<◌, List, [], ◌∷◌, length, get_or, drop, add-one, ap, sym, ◌∙◌, arith}
use Rattle.planned_die.specs.Planned.{Planned}
use Rattle.flashplan_kept_runs.specs.KeptDies.{cores_of}

from_place : {N : Type 0} (dies : List (Planned N)) (place : ℕ) (die : Planned N) → place < length dies → die ≡ get_or dies place die
    → drop place (cores_of dies) ≡ die.core ∷ drop (suc place) (cores_of dies)
from_place [] place die below is = absurd (omega (arith, below))
from_place {N} (d ∷ dies) zero die below is = ap (λ (x : Planned N). x.core ∷ cores_of dies) (sym is)
from_place (d ∷ dies) (suc place) die below is = from_place dies place die (omega (arith, below)) is

-- the die of a place is the first of those that are left there
pub first_left : {N : Type 0} (dies : List (Planned N)) (place : ℕ) (die : Planned N) → place < length dies → die ≡ get_or dies place die
    → drop place (cores_of dies) ≡ die.core ∷ drop (place + 1) (cores_of dies)
first_left {N} dies place die below is =
    from_place dies place die below is ∙ ap (λ (n : ℕ). die.core ∷ drop n (cores_of dies)) (sym (add-one place))
