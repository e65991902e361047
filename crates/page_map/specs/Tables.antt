-- The tables of a map, and what is true of them.
use Rattle.std.specs.Prelude.{◌≡◌, ◌<◌, ◌≤◌, ◌^◌, ◌*◌, ◌-◌, ℕ, Option, Some, None, List, ◌++◌, length}
use Rattle.std.specs.Prelude.{map, replicate, count_by, slice_index}
use Rattle.std.specs.Prelude.{slice_index_or, vec_capacity}
use Rattle.slot_types.specs.declared.pages.Place.{Place}
use Rattle.slot_types.specs.declared.plans.Shape.{Shape}
use Rattle.slot_types.specs.Places.{is_in, place_of, owner_of}
use Rattle.page_map.specs.declared.map.PageMap.TheInside.{Inside}
use Rattle.page_map.specs.Placing.{Placing, HaveOwnCells, IsCell, cell_index}
use Rattle.page_map.specs.Packing.{place_in}

-- the owners by cell and the counts by block agree with the places
pub record AreTables (shape : Shape) (places : List (Option Place)) (owners : List (Option ℕ)) (valid : List ℕ) : Type 0 where
  pub few : length places < 2 ^ 32
  pub apart : HaveOwnCells places
  pub within : (page : ℕ) (place : Place) → place_of places page ≡ Some place → IsCell shape place
  pub owners_len : length owners ≡ shape.blocks * shape.pages
  pub owners_are : (place : Place) → IsCell shape place → slice_index_or owners (cell_index shape place) None ≡ owner_of places place
  pub valid_len : length valid ≡ shape.blocks
  pub valid_are : (block : ℕ) → block < shape.blocks → slice_index valid block ≡ count_by (is_in block) places

-- the entries up to `count`, of which those that are not laid down yet have nothing
abbrev pub entries_up_to : {X : Type 0} → ℕ → List (Option X) → List (Option X)
entries_up_to count entries = entries ++ replicate (count - length entries) None

-- the tables of the map, laid down or not: where a page lies is said by the number of its cell
abbrev pub cells_of : Inside → List (Option ℕ)
cells_of m = entries_up_to m.logical m.places.items

abbrev pub places_of : Inside → List (Option Place)
places_of m = map (place_in m.shape) (cells_of m)

abbrev pub owners_of : Inside → List (Option ℕ)
owners_of m = entries_up_to (m.shape.blocks * m.shape.pages) m.owners.items

abbrev pub placing_of : Inside → Placing
placing_of m = record { shape = m.shape; places = places_of m }

-- the entries that are laid down are some of the map's, there is room for all, and a word for each cell
pub record IsSoundMap (m : Inside) : Type 0 where
  pub tables : AreTables m.shape (places_of m) (owners_of m) m.valid.items
  pub few_cells : m.shape.blocks * m.shape.pages < 2 ^ 32
  pub some_places : length m.places.items ≤ m.logical
  pub room_places : m.logical ≤ vec_capacity m.places
  pub some_owners : length m.owners.items ≤ m.shape.blocks * m.shape.pages
  pub room_owners : m.shape.blocks * m.shape.pages ≤ vec_capacity m.owners
