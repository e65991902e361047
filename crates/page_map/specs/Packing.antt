-- Cells by their numbers.
use Rattle.std.specs.Prelude.{ℕ, ◌/◌, ◌%◌, Option, option_map}
use Rattle.slot_types.specs.declared.pages.Place.{Place}
use Rattle.slot_types.specs.declared.plans.Shape.{Shape}

-- the cell of this number
abbrev pub place_at : Shape → ℕ → Place
place_at shape cell = record { block = cell / shape.pages; page = cell % shape.pages }

abbrev pub place_in : Shape → Option ℕ → Option Place
place_in shape cell = option_map (place_at shape) cell
