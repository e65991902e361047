-- What contracts see of a part in memory whose blocks fail, read off its fields.
use Rattle.std.specs.Prelude.{◌≡◌, ℕ, ◌<◌, ◌≤◌, All, length, map, vec_capacity}
use Rattle.spare_blocks.specs.declared.memory.WearingBlock.{WearingBlock}
use Rattle.spare_blocks.specs.declared.memory.WearingMemory.TheInside.{Inside}
use Rattle.spare_blocks.specs.Parts.{PartBlock}
use Rattle.spare_blocks.specs.Wearing.{Wearing}

abbrev pub seen_block : WearingBlock → PartBlock
seen_block b = record { cells = b.cells.items; erasing = b.erasing; failed = b.failed }

abbrev pub wearing_of : Inside → Wearing
wearing_of m = record { shape = m.shape; blocks = map seen_block m.blocks.items; next = m.next; spent = m.spent; faulted = m.faulted }

-- a block has no more cells than its pages and room for these, and fewer slots of an erase than one takes
pub record IsSoundWearingBlock (pages slots : ℕ) (b : WearingBlock) : Type 0 where
  pub within : length b.cells.items ≤ pages
  pub room : pages ≤ vec_capacity b.cells
  pub few_slots : b.erasing < slots

pub record IsSoundWearing (m : Inside) : Type 0 where
  pub some_slots : 0 < m.shape.erase_slots
  pub count : length m.blocks.items ≡ m.shape.blocks
  pub each : All (IsSoundWearingBlock m.shape.pages m.shape.erase_slots) m.blocks.items
