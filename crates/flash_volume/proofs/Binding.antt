-- Pages are bound one after the other to the cells in which they are to lie.
use Rattle.std.proofs.Common.{◌≡◌, ℕ, List, Option, Some, None, sym, ◌∙◌, arith, inl, inr}
use Rattle.std.proofs.lemmas.Bool.{cases_lt}
use Rattle.slot_types.specs.declared.pages.Place.{Place}
use Rattle.slot_types.specs.Places.{place_of, owner_of}
use Rattle.page_map.specs.Placing.{HaveOwnCells}
use Rattle.page_map.proofs.Laying.{IsLaid}
use Rattle.page_map.proofs.Owners.{no_owner}

-- the next one's cell is free, where no two are to lie in one
pub free_next : (given places : List (Option Place)) (page : ℕ) (place : Place) → IsLaid given places page → HaveOwnCells given
    → place_of given page ≡ Some place → owner_of places place ≡ None
free_next given places page place so own lies = no_owner places place (λ p here.
    elim (cases_lt p page) [
      | inl before ↦ let same : p ≡ page = own.apart p page place (sym (so.below p before) ∙ here) lies in omega (arith, same, before)
      | inr after ↦ let none : place_of places p ≡ None = so.above p after in absurd cc
    ])
