-- What contracts see of a device in memory, read off its fields.
use Rattle.std.specs.Prelude.{◌*◌, ◌≤◌, List, length, vec_capacity}
use Rattle.slot_types.specs.declared.pages.PageData.{PageData}
use Rattle.flash_die.specs.declared.memory.MemoryNand.TheInside.{Inside}
use Rattle.flash_die.specs.Memory.{Memory, blocks_of, cells_up_to, IsMemory}

-- the cells of the device, laid down or not
abbrev pub cells_of : Inside → List PageData
cells_of m = cells_up_to (m.shape.blocks * m.shape.pages) m.cells.items

abbrev pub memory_of : Inside → Memory
memory_of m = record { shape = m.shape; blocks = blocks_of m.shape.pages (cells_of m) m.filled.items m.erasing.items m.erases.items }

-- the cells that are laid down are some of the device's, and there is room for all
pub record IsSoundMemory (m : Inside) : Type 0 where
  pub memory : IsMemory m.shape (cells_of m) m.filled.items m.erasing.items m.erases.items
  pub some : length m.cells.items ≤ m.shape.blocks * m.shape.pages
  pub room : m.shape.blocks * m.shape.pages ≤ vec_capacity m.cells
