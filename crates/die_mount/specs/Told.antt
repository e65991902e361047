-- What is reported to a mount of cells: of each label page and serial, without the bytes.
use Rattle.std.specs.Prelude.{◌≡◌, ℕ, ◌<◌, ◌≤◌, ◌^◌, List, Option, Some, None, map, option_map, slice_index_or, nat_le, if◌then◌else◌}
use Rattle.die_log.specs.Model.Start.{blank_page}
use Rattle.power_loss.specs.Labels.{Label as Stands}
use Rattle.die_mount.specs.declared.label.Label.{Label}

abbrev pub told_label : Stands → Label
told_label x = record { page = x.page; serial = x.serial }

-- what is reported of a block whose cells show this
abbrev pub told_cells : List (Option Stands) → List (Option Label)
told_cells shown = map (option_map told_label) shown

-- the label that is reported of a cell
abbrev pub told_at : List (Option Label) → ℕ → Option Label
told_at cells k = slice_index_or cells k None

-- a page of `logical` pages, and a serial in its range
abbrev pub IsFitLabel : ℕ → Label → Type 0
IsFitLabel logical x = (x.page < logical) × (x.serial < 2 ^ 63)

abbrev pub HaveFitLabels : ℕ → List (Option Label) → Type 0
HaveFitLabels logical cells = (k : ℕ) (x : Label) → told_at cells k ≡ Some x → IsFitLabel logical x

abbrev pub larger_of : Option ℕ → ℕ → ℕ
larger_of None serial = serial
larger_of (Some most) serial = if nat_le serial most then most else serial

-- the greatest serial of these cells, if they have a label
abbrev pub IsGreatestIn : List (Option Label) → Option ℕ → Type 0
IsGreatestIn cells None = (k : ℕ) (x : Label) → told_at cells k ≡ Some x → ⊥
IsGreatestIn cells (Some serial) = ((k : ℕ) × (x : Label) × (told_at cells k ≡ Some x) × (x.serial ≡ serial))
    × ((k : ℕ) (x : Label) → told_at cells k ≡ Some x → x.serial ≤ serial)

-- Bytes don't matter to where a page is found: cells that show what is reported, with blank pages

abbrev pub shown_label : Label → Stands
shown_label x = record { page = x.page; serial = x.serial; bytes = blank_page }

abbrev pub shown_cells : List (Option Label) → List (Option Stands)
shown_cells cells = map (option_map shown_label) cells
