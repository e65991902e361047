-- Which of the candidates with one count goes first.
use Rattle.std.specs.Prelude.{◌≡◌, ◌⊎◌, ℕ, ◌<◌, ◌≤◌, List, Option, Some}
use Rattle.victim_pick.specs.Candidates.{count_of, erases_of}

-- a block has no more erases than another one, and of two with as many it is the first
pub record NotAfter (erases : List (Option ℕ)) (block other : ℕ) : Type 0 where
  pub least_worn : erases_of erases block ≤ erases_of erases other
  pub first : erases_of erases other ≡ erases_of erases block → block ≤ other

-- of a block, if there is one, and another one this goes first
pub record IsEarlier (erases : List (Option ℕ)) (one : Option ℕ) (other first : ℕ) : Type 0 where
  pub from : (one ≡ Some first) ⊎ (first ≡ other)
  pub before_one : (block : ℕ) → one ≡ Some block → NotAfter erases first block
  pub before_other : NotAfter erases first other

-- a block that doesn't come after this one was found
abbrev pub IsFound : List (Option ℕ) → Option ℕ → ℕ → Type 0
IsFound erases found other = (block : ℕ) × (found ≡ Some block) × NotAfter erases block other

-- of the blocks with a count this goes first, if any has it
pub record IsFirstOf (counts erases : List (Option ℕ)) (count : ℕ) (found : Option ℕ) : Type 0 where
  pub counted : (block : ℕ) → found ≡ Some block → count_of counts block ≡ Some count
  pub before : (other : ℕ) → count_of counts other ≡ Some count → IsFound erases found other

-- no block has a count from one up to another
abbrev pub AreEmpty : List (Option ℕ) → ℕ → ℕ → Type 0
AreEmpty counts from to = (block count : ℕ) → count_of counts block ≡ Some count → from ≤ count → count < to → ⊥

-- the least count, from another on, that a block has, and of the blocks with that count the one that goes first
pub record IsFirstFrom (counts erases : List (Option ℕ)) (from count block : ℕ) : Type 0 where
  pub from_on : from ≤ count
  pub empty : AreEmpty counts from count
  pub first : IsFirstOf counts erases count (Some block)
