-- What contracts see of a device in memory that keeps labels, read off its fields.
use Rattle.std.specs.Prelude.{◌≡◌, ℕ, ◌<◌, ◌≤◌, All, length, map, vec_capacity}
use Rattle.slot_types.specs.Shapes.{IsShape}
use Rattle.labelled_nand.specs.declared.memory.LabelledMemory.TheInside.{Inside}
use Rattle.labelled_nand.specs.declared.memory.MarkedBlock.{MarkedBlock}
use Rattle.labelled_nand.specs.Memory.{Marked, MarkedCells}

abbrev pub cells_of : MarkedBlock → MarkedCells
cells_of b = record { cells = b.cells.items; erasing = b.erasing; erases = b.erases }

abbrev pub marked_of : Inside → Marked
marked_of m = record { shape = m.shape; blocks = map cells_of m.blocks.items; next = m.next }

-- a block has room for its pages, and fewer slots of an erase than one takes
pub record IsSoundBlock (pages slots : ℕ) (b : MarkedBlock) : Type 0 where
  pub within : length b.cells.items ≤ pages
  pub room : pages ≤ vec_capacity b.cells
  pub few_slots : b.erasing < slots

pub record IsSoundMarked (m : Inside) : Type 0 where
  pub limits : IsShape m.shape
  pub count : length m.blocks.items ≡ m.shape.blocks
  pub each : All (IsSoundBlock m.shape.pages m.shape.erase_slots) m.blocks.items
