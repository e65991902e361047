-- The cells of a device.
use Rattle.std.specs.Prelude.{◌≡◌, ℕ, ◌+◌, ◌<◌, ◌==◌, if◌then◌else◌, List, [], ◌∷◌, ◌++◌, length, replicate, slice_index_or, slice_set}
use Rattle.slot_types.specs.declared.pages.PageData.{PageData}
use Rattle.slot_types.specs.declared.pages.Place.{Place}
use Rattle.slot_types.specs.declared.plans.Shape.{Shape}

-- a page that was never written
abbrev pub blank : PageData
blank = record { 0 = replicate 16 255 }

-- a block: the pages programmed since its last erase, in order, the others being free; how many slots its running erase
-- has had; how many erases it has had
pub record Block : Type 0 where
  pub pages : List PageData
  pub erasing : ℕ
  pub erases : ℕ

abbrev pub free_block : Block
free_block = record { pages = []; erasing = 0; erases = 0 }

abbrev pub block_at : List Block → ℕ → Block
block_at blocks block = slice_index_or blocks block free_block

-- what a cell holds
abbrev pub cell_at : List Block → Place → PageData
cell_at blocks place = slice_index_or (block_at blocks place.block).pages place.page blank

-- a programmed cell of a block that is not in erase
pub record IsProgrammed (blocks : List Block) (place : Place) : Type 0 where
  pub in_range : place.block < length blocks
  pub filled : place.page < length (block_at blocks place.block).pages
  pub quiet : (block_at blocks place.block).erasing ≡ 0

-- the next free cell of a block that is not in erase
pub record IsNextCell (blocks : List Block) (pages : ℕ) (place : Place) : Type 0 where
  pub in_range : place.block < length blocks
  pub next : place.page ≡ length (block_at blocks place.block).pages
  pub room : place.page < pages
  pub quiet : (block_at blocks place.block).erasing ≡ 0

-- a closed block, whether its erase has begun or not
pub record IsErasable (blocks : List Block) (pages : ℕ) (block : ℕ) : Type 0 where
  pub in_range : block < length blocks
  pub closed : ((block_at blocks block).erasing ≡ 0) → length (block_at blocks block).pages ≡ pages
  pub few_erases : (block_at blocks block).erases < 4294967295

-- after a program of the block's next cell
abbrev pub blocks_after_program : List Block → ℕ → PageData → List Block
blocks_after_program blocks block bytes =
    let old = block_at blocks block in
    slice_set blocks block (record old { pages = old.pages ++ bytes ∷ [] })

-- a block after one more slot of its erase, of which the last frees it
abbrev pub block_after_erase_slot : ℕ → Block → Block
block_after_erase_slot slots block =
    if block.erasing + 1 == slots
    then record { pages = []; erasing = 0; erases = block.erases + 1 }
    else record block { erasing = block.erasing + 1 }

-- after one more slot of a block's erase
abbrev pub blocks_after_erase_slot : List Block → ℕ → ℕ → List Block
blocks_after_erase_slot blocks slots block = slice_set blocks block (block_after_erase_slot slots (block_at blocks block))

-- the blocks of a device on which nothing was done yet
abbrev pub fresh_blocks : Shape → List Block
fresh_blocks shape = replicate shape.blocks free_block

-- of a device on which nothing was done yet
pub record IsFresh (shape : Shape) (blocks : List Block) (failures : ℕ) : Type 0 where
  pub unused : blocks ≡ fresh_blocks shape
  pub well : failures ≡ 0
