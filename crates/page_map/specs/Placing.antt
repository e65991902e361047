-- Where the logical pages of a die lie.
use Rattle.std.specs.Prelude.{◌≡◌, ◌<◌, ◌≤◌, ◌+◌, ◌*◌, ℕ, Option, Some, None, List, replicate, slice_set, IsSome}
use Rattle.slot_types.specs.declared.pages.Place.{Place}
use Rattle.slot_types.specs.declared.plans.Shape.{Shape}
use Rattle.slot_types.specs.Places.{place_of, owner_of}

-- the shape of the die, and by logical page the cell in which it lies
pub record Placing : Type 0 where
  pub shape : Shape
  pub places : List (Option Place)

-- a cell of the die
pub record IsCell (shape : Shape) (place : Place) : Type 0 where
  pub block : place.block < shape.blocks
  pub page : place.page < shape.pages

-- the number of a cell, those of one block after the other
abbrev pub cell_index : Shape → Place → ℕ
cell_index shape place = place.block * shape.pages + place.page

-- no two pages lie in one cell
pub record HaveOwnCells (places : List (Option Place)) : Type 0 where
  pub apart : (i j : ℕ) (place : Place) → place_of places i ≡ Some place → place_of places j ≡ Some place → i ≡ j

abbrev pub blank_map : Shape → ℕ → Placing
blank_map shape logical = record { shape = shape; places = replicate logical None }

-- with a page that lies in this cell
abbrev pub placing_with : Placing → ℕ → Place → Placing
placing_with placing page place = record placing { places = slice_set placing.places page (Some place) }

-- with a page that lies nowhere
abbrev pub placing_without : Placing → ℕ → Placing
placing_without placing page = record placing { places = slice_set placing.places page None }

-- the cell of this page and block is the first that holds a logical page, from a page on
pub record IsNextOwned (places : List (Option Place)) (block from page : ℕ) : Type 0 where
  pub from_on : from ≤ page
  pub owned : IsSome (owner_of places (record { block = block; page = page }))
  pub first : (earlier : ℕ) → from ≤ earlier → earlier < page → owner_of places (record { block = block; page = earlier }) ≡ None
