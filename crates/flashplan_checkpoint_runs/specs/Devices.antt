-- A device that is made from what was saved of it.
use Rattle.std.specs.Prelude.{ℕ, ◌*◌, ◌<◌, List, [], ◌∷◌, map, replicate, slice_set, Option, Some, IfSome}
use Rattle.slot_types.specs.declared.pages.PageData.{PageData}
use Rattle.slot_types.specs.declared.pages.Place.{Place}
use Rattle.slot_types.specs.declared.plans.Shape.{Shape}
use Rattle.checkpoint_texts.specs.declared.saved.SavedDie.{SavedDie}
use Rattle.checkpoint_texts.specs.declared.saved.SavedPage.{SavedPage}
use Rattle.die_checkpoint.specs.declared.checkpoint.BlockCounts.{BlockCounts}
use Rattle.flash_die.specs.Flash.{blank}
use Rattle.flash_die.specs.Memory.{Memory, left_memory}
use Rattle.page_map.specs.Placing.{cell_index}

-- by block how many of its pages are programmed, and how often it was erased
abbrev pub fills_of : List BlockCounts → List ℕ
fills_of blocks = map (λ (block : BlockCounts). block.filled) blocks

abbrev pub erases_of : List BlockCounts → List ℕ
erases_of blocks = map (λ (block : BlockCounts). block.erases) blocks

-- cells with the bytes of a page in its cell
abbrev pub cells_with : Shape → List PageData → Option Place → Option PageData → List PageData
cells_with shape cells (Some place) (Some bytes) = slice_set cells (cell_index shape place) bytes
cells_with shape cells _ _ = cells

-- and with those of all pages
abbrev pub cells_with_all : Shape → List PageData → List SavedPage → List PageData
cells_with_all shape cells [] = cells
cells_with_all shape cells (page ∷ pages) = cells_with_all shape (cells_with shape cells page.place page.bytes) pages

-- a page lies nowhere, or in one of the first `count` cells
abbrev pub LiesBelow : Shape → ℕ → SavedPage → Type 0
LiesBelow shape count page = IfSome page.place (λ place. cell_index shape place < count)

-- the cells of a device, all blank but those that were saved
abbrev pub saved_cells : Shape → SavedDie → List PageData
saved_cells shape die = cells_with_all shape (replicate (shape.blocks * shape.pages) blank) die.pages

-- the device, with contents, counts and erases as saved
abbrev pub saved_device : Shape → SavedDie → Memory
saved_device shape die = left_memory shape (saved_cells shape die) (fills_of die.blocks) (erases_of die.blocks)
