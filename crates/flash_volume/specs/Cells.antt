-- What the cells of a device mean to an array of pages that is kept on it.
use Rattle.std.specs.Prelude.{◌==◌, ℕ, ◌-◌, ◌&&◌, nat_lt, Bool, if◌then◌else◌, List, length, map, sum_by, position, Option, Some, None}
use Rattle.std.specs.Prelude.{unwrap_or}
use Rattle.std.specs.Option.{option_or}
use Rattle.slot_types.specs.declared.pages.Place.{Place}
use Rattle.slot_types.specs.declared.pages.PageData.{PageData}
use Rattle.flash_die.specs.Flash.{Block, blank, block_at, cell_at}

-- how many cells of a block are programmed
abbrev pub filled_of : Block → ℕ
filled_of block = length block.pages

abbrev pub fills_of : List Block → List ℕ
fills_of blocks = map filled_of blocks

-- by block its finished erases
abbrev pub erases_in : List Block → List ℕ
erases_in blocks = map (λ block. block.erases) blocks

-- a block of `pages` pages is open where at least one of them, and not all, are programmed: `filled` of them
abbrev pub is_open_with : ℕ → ℕ → Bool
is_open_with pages filled = nat_lt 0 filled && nat_lt filled pages

abbrev pub is_wholly_free : ℕ → Bool
is_wholly_free filled = filled == 0

-- the open block
abbrev pub opened_in : ℕ → List Block → Option ℕ
opened_in pages blocks = position (is_open_with pages) (fills_of blocks)

-- the block to which pages are programmed: the open one, or else the first that is wholly free
abbrev pub open_in : ℕ → List Block → Option ℕ
open_in pages blocks = option_or (opened_in pages blocks) (position is_wholly_free (fills_of blocks))

-- the block stays open until its last cell is programmed
abbrev pub left_open : ℕ → ℕ → ℕ → Option ℕ
left_open pages block filled = if nat_lt filled pages then Some block else None

-- the cell that is programmed next
abbrev pub next_cell : ℕ → List Block → Place
next_cell pages blocks =
    let block = unwrap_or (open_in pages blocks) 0 in
    record { block = block; page = filled_of (block_at blocks block) }

-- more erases than `most`
abbrev pub is_worn_beyond : ℕ → ℕ → Bool
is_worn_beyond most erases = nat_lt most erases

-- the first block that was erased more than `most` times
abbrev pub first_worn : ℕ → List Block → Option ℕ
first_worn most blocks = position (is_worn_beyond most) (erases_in blocks)

-- what a page holds that lies there
abbrev pub content_at : List Block → Option Place → PageData
content_at blocks None = blank
content_at blocks (Some place) = cell_at blocks place

-- what each page holds
abbrev pub contents : List Block → List (Option Place) → List PageData
contents blocks places = map (content_at blocks) places

-- the free cells. A block in erase has none, as its pages count as programmed until its last erase slot
abbrev pub free_in : ℕ → Block → ℕ
free_in pages block = pages - filled_of block

abbrev pub free_cells : ℕ → List Block → ℕ
free_cells pages blocks = sum_by (free_in pages) blocks
