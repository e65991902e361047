-- Where no list has a block, there is no candidate.
use Rattle.std.proofs.Common.{◌≡◌, ℕ, ◌+◌, List, Option, Some, None, refl, arith}
use Rattle.victim_pick.specs.Candidates.{count_of, HasNone}
use Rattle.victim_pick.specs.Ties.{AreEmpty}
use Rattle.victim_pick.specs.SoundVictims.{IsWithin}

-- what isn't counted by any number isn't counted
uncounted : (o : Option ℕ) → ((count : ℕ) → o ≡ Some count → ⊥) → o ≡ None
uncounted None none = refl
uncounted (Some count) none = absurd (none count refl)

pub has_none : (counts erases : List (Option ℕ)) (least : ℕ) → IsWithin counts erases least → ((to : ℕ) → AreEmpty counts least to)
    → HasNone counts
has_none counts erases least are empty =
    λ block. uncounted (count_of counts block) (λ count is. empty (count + 1) block count is (are.least_is block count is) (omega arith))
