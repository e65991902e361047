-- Places that are given as a whole: a map of them, or why there is none.
use Rattle.std.specs.Prelude.{◌≡◌, ◌<◌, ℕ, Option, Some, List}
use Rattle.slot_types.specs.declared.pages.Place.{Place}
use Rattle.slot_types.specs.declared.plans.Shape.{Shape}
use Rattle.slot_types.specs.Places.{place_of}
use Rattle.page_map.specs.Placing.{IsCell}
use Rattle.page_map.specs.declared.given.PlacesFault.{PlacesFault}
use Rattle.page_map.specs.declared.given.PlacesFault.TheVariants.{NoMemory, SharedCell}

-- each page that lies somewhere lies in a cell of the die
abbrev pub AreCells : Shape → List (Option Place) → Type 0
AreCells shape places = (page : ℕ) (place : Place) → place_of places page ≡ Some place → IsCell shape place

-- the page lies in the cell of a page before it, and of the pages before it no two lie in one
pub record IsFirstShared (places : List (Option Place)) (page : ℕ) : Type 0 where
  pub place : Place
  pub lies : place_of places page ≡ Some place
  pub other : ℕ
  pub before : other < page
  pub also : place_of places other ≡ Some place
  pub first : (i j : ℕ) (q : Place) → i < page → j < page → place_of places i ≡ Some q → place_of places j ≡ Some q → i ≡ j

-- why there is no map of these places
abbrev pub HasPlacesFault : List (Option Place) → PlacesFault → Type 0
HasPlacesFault places NoMemory = Unit {0}
HasPlacesFault places (SharedCell page) = IsFirstShared places page
