-- A part whose blocks may fail: its cells, and what its calls do to them.
use Rattle.std.specs.Prelude.{◌≡◌, ℕ, ◌+◌, ◌-◌, ◌^◌, ◌<◌, min, Bool, true, false, if◌then◌else◌, List, [], ◌∷◌, ◌++◌, length}
use Rattle.std.specs.Prelude.{Option, Some, None, option_map, Result, IfErr, OnOk, OnErr, slice_index_or, slice_set}
use Rattle.slot_types.specs.declared.pages.PageData.{PageData}
use Rattle.slot_types.specs.declared.pages.Place.{Place}
use Rattle.slot_types.specs.declared.refusals.Refusal.{Refusal}
use Rattle.slot_types.specs.declared.refusals.Refusal.TheVariants.{DeviceFault}
use Rattle.flash_die.specs.Flash.{blank}
use Rattle.spare_blocks.specs.declared.cells.Cell.{Cell}
use Rattle.spare_blocks.specs.declared.cells.Mark.{Mark}
use Rattle.spare_blocks.specs.declared.cells.Ended.{Ended}
use Rattle.spare_blocks.specs.declared.cells.Ended.TheVariants as ended
use Rattle.spare_blocks.specs.declared.cells.Erased.{Erased}
use Rattle.spare_blocks.specs.declared.cells.Erased.TheVariants as erased

-- a block: the cells programmed since its last erase, in order; how many slots its running erase has had; whether it failed
pub record PartBlock : Type 0 where
  pub cells : List Cell
  pub erasing : ℕ
  pub failed : Bool

-- a block that may be programmed from its first cell on
abbrev pub free_part_block : PartBlock
free_part_block = record { cells = []; erasing = 0; failed = false }

-- a block of which nothing may be read
abbrev pub lost_block : PartBlock
lost_block = record { cells = []; erasing = 0; failed = true }

-- a block that the part doesn't have counts as one that failed
abbrev pub part_block : List PartBlock → ℕ → PartBlock
part_block blocks x = slice_index_or blocks x lost_block

abbrev pub blank_cell : Cell
blank_cell = record { bytes = blank; mark = None }

abbrev pub cell_on : List PartBlock → Place → Cell
cell_on blocks place = slice_index_or (part_block blocks place.block).cells place.page blank_cell

-- a programmed cell of a block that isn't in erase, whether the block failed or not
pub record IsCell (blocks : List PartBlock) (place : Place) : Type 0 where
  pub filled : place.page < length (part_block blocks place.block).cells
  pub quiet : (part_block blocks place.block).erasing ≡ 0

-- the next free cell of a block that didn't fail and isn't in erase
pub record IsFreeCell (blocks : List PartBlock) (pages : ℕ) (place : Place) : Type 0 where
  pub whole : (part_block blocks place.block).failed ≡ false
  pub next : place.page ≡ length (part_block blocks place.block).cells
  pub room : place.page < pages
  pub quiet : (part_block blocks place.block).erasing ≡ 0

-- the label of a program, where labels are kept and this is the next serial: it has one if it was given a page
abbrev pub mark_of : (keeps : Bool) → (next : ℕ) → Option ℕ → Option Mark
mark_of keeps next page = if keeps then option_map (λ p. record { page = p; serial = next }) page else None

abbrev pub programmed_cell : (keeps : Bool) → (next : ℕ) → Option ℕ → PageData → Cell
programmed_cell keeps next page bytes = record { bytes = bytes; mark = mark_of keeps next page }

-- a block after a program of its next free cell
abbrev pub block_after_program : Ended → Cell → PartBlock → PartBlock
block_after_program ended.Done cell b = record b { cells = b.cells ++ cell ∷ [] }
block_after_program ended.Failed cell b = record b { failed = true }

abbrev pub blocks_after_program : Ended → List PartBlock → ℕ → Cell → List PartBlock
blocks_after_program ended blocks x cell = slice_set blocks x (block_after_program ended cell (part_block blocks x))

-- the next serial is one more after a program that was done and was given a page, up to the greatest that there is
abbrev pub serial_after : Ended → Option ℕ → ℕ → ℕ
serial_after ended.Done (Some page) serial = min (serial + 1) (2 ^ 64 - 1)
serial_after ended.Done None serial = serial
serial_after ended.Failed page serial = serial

abbrev pub is_last_slot : Erased → Bool
is_last_slot erased.Partly = false
is_last_slot erased.Wholly = true
is_last_slot erased.Failed = true

-- a block after a slot of its erase
abbrev pub block_after_slot : Erased → PartBlock → PartBlock
block_after_slot erased.Partly b = record b { erasing = b.erasing + 1 }
block_after_slot erased.Wholly b = free_part_block
block_after_slot erased.Failed b = lost_block

abbrev pub blocks_after_slot : Erased → List PartBlock → ℕ → List PartBlock
blocks_after_slot erased blocks x = slice_set blocks x (block_after_slot erased (part_block blocks x))

-- a block after a whole erase
abbrev pub block_after_erase : Ended → PartBlock
block_after_erase ended.Done = free_part_block
block_after_erase ended.Failed = lost_block

abbrev pub blocks_after_erase : Ended → List PartBlock → ℕ → List PartBlock
blocks_after_erase ended blocks x = slice_set blocks x (block_after_erase ended)

-- the part alone refuses the call, with a fault, and exactly then it had one
pub record FaultsAlone {A : Type 0} (result : Result A Refusal) (faulted : Bool) : Type 0 where
  pub fault : IfErr result (λ refusal. refusal ≡ DeviceFault)
  pub told : OnErr result (faulted ≡ true)
  pub well : OnOk result (faulted ≡ false)
