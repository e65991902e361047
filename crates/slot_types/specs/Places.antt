-- Where logical pages lie.
use Rattle.std.specs.Prelude.{ℕ, ◌==◌, ◌&&◌, Bool, false, List, Option, Some, None, slice_index_or, position}
use Rattle.slot_types.specs.declared.pages.Place.{Place}

-- whether a logical page lies in this block
abbrev pub is_in : ℕ → Option Place → Bool
is_in block None = false
is_in block (Some place) = place.block == block

-- whether a logical page lies in this cell
abbrev pub is_at : Place → Option Place → Bool
is_at place None = false
is_at place (Some other) = (other.block == place.block) && (other.page == place.page)

-- where a logical page lies
abbrev pub place_of : List (Option Place) → ℕ → Option Place
place_of places page = slice_index_or places page None

-- the logical page that lies in a cell
abbrev pub owner_of : List (Option Place) → Place → Option ℕ
owner_of places place = position (is_at place) places
