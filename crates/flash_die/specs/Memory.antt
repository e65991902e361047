-- A device in memory: one list of cells, and by block three counts.
use Rattle.std.specs.Prelude.{◌≡◌, ℕ, ◌+◌, ◌*◌, ◌-◌, ◌<◌, ◌≤◌, List, ◌++◌, length, replicate, take, drop, map, slice_index, slice_index_or}
use Rattle.std.specs.List.{range_with_len}
use Rattle.slot_types.specs.declared.pages.PageData.{PageData}
use Rattle.slot_types.specs.declared.pages.Place.{Place}
use Rattle.slot_types.specs.declared.plans.Shape.{Shape}
use Rattle.slot_types.specs.Shapes.{IsShape}
use Rattle.flash_die.specs.Flash.{Block, blank, block_at, cell_at, fresh_blocks}

-- a device as its callers see it
pub record Memory : Type 0 where
  pub shape : Shape
  pub blocks : List Block

abbrev pub fresh_memory : Shape → Memory
fresh_memory shape = record { shape = shape; blocks = fresh_blocks shape }

-- a block, cut out of the list of cells
abbrev pub block_of : ℕ → List PageData → List ℕ → List ℕ → List ℕ → ℕ → Block
block_of pages cells filled erasing erases block = record {
  pages = take (slice_index filled block) (drop (block * pages) cells);
  erasing = slice_index erasing block;
  erases = slice_index erases block;
}

-- the cells up to `count`, of which those that are not laid down yet are free
abbrev pub cells_up_to : ℕ → List PageData → List PageData
cells_up_to count cells = cells ++ replicate (count - length cells) blank

abbrev pub blocks_of : ℕ → List PageData → List ℕ → List ℕ → List ℕ → List Block
blocks_of pages cells filled erasing erases = map (block_of pages cells filled erasing erases) (range_with_len 0 (length filled))

-- A device that was left so: its cells in one list, of which those beyond it are blank, and by block how many pages are programmed and
-- how often it was erased.
abbrev pub left_memory : Shape → List PageData → List ℕ → List ℕ → Memory
left_memory shape cells filled erases = record {
  shape = shape;
  blocks = blocks_of shape.pages (cells_up_to (shape.blocks * shape.pages) cells) filled (replicate shape.blocks 0) erases;
}

-- the blocks of a device that was left so are as was said: as many programmed pages as `filled` says, no erase that
-- runs, as many erases as `erases` says, and in each programmed cell what was given for it
pub record AreLeftSo (shape : Shape) (cells : List PageData) (filled erases : List ℕ) (blocks : List Block) : Type 0 where
  pub count : length blocks ≡ length filled
  pub counts : (block : ℕ) → block < length filled → length (block_at blocks block).pages ≡ slice_index filled block
  pub idle : (block : ℕ) → (block_at blocks block).erasing ≡ 0
  pub worn : (block : ℕ) → block < length filled → (block_at blocks block).erases ≡ slice_index erases block
  pub cells_are : (place : Place) → place.block < length filled → place.page < slice_index filled place.block
      → cell_at blocks place ≡ slice_index_or cells (place.block * shape.pages + place.page) blank

pub record IsMemory (shape : Shape) (cells : List PageData) (filled erasing erases : List ℕ) : Type 0 where
  pub limits : IsShape shape
  pub filled_len : length filled ≡ shape.blocks
  pub erasing_len : length erasing ≡ shape.blocks
  pub erases_len : length erases ≡ shape.blocks
  pub cells_len : length cells ≡ shape.blocks * shape.pages
  pub within : (block : ℕ) → slice_index filled block ≤ shape.pages
  pub few_slots : (block : ℕ) → slice_index erasing block < shape.erase_slots
