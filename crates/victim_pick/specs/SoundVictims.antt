-- What contracts see of the candidates, and what is true of them.
use Rattle.std.specs.Prelude.{◌≡◌, ℕ, ◌≤◌, List, length, Option, Some}
use Rattle.victim_pick.specs.declared.victims.Victims.TheInside.{Inside}
use Rattle.victim_pick.specs.Candidates.{Candidates, count_of}

-- each block has its place among the erases, and no candidate has a count below the least that is remembered
pub record IsWithin (counts erases : List (Option ℕ)) (least : ℕ) : Type 0 where
  pub erases_len : length erases ≡ length counts
  pub least_is : (block count : ℕ) → count_of counts block ≡ Some count → least ≤ count

abbrev pub candidates_of : Inside → Candidates
candidates_of v = record { pages = v.lists.pages; counts = v.lists.counts; erases = v.erases.items }

abbrev pub AreSoundVictims : Inside → Type 0
AreSoundVictims v = IsWithin v.lists.counts v.erases.items v.least
