-- Cells before which no page lies.
use Rattle.std.specs.Prelude.{◌≡◌, ℕ, ◌≤◌, List, length, Option, Some, slice_index}
use Rattle.slot_types.specs.declared.pages.Place.{Place}
use Rattle.slot_types.specs.Places.{place_of}

-- there is a cell for each block, and of the pages that lie in the block none lies before it
pub record LieAfter (blocks : ℕ) (places : List (Option Place)) (firsts : List ℕ) : Type 0 where
  pub len : length firsts ≡ blocks
  pub beyond : (page : ℕ) (place : Place) → place_of places page ≡ Some place → slice_index firsts place.block ≤ place.page
