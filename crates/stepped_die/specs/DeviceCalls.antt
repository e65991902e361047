-- What a driver is asked to do, and what that does to the blocks of its device.
use Rattle.std.specs.Prelude.{◌≡◌, ℕ, ◌+◌, ◌==◌, Bool, true, Option, Some, None, ⊤}
use Rattle.slot_types.specs.declared.pages.PageData.{PageData}
use Rattle.flash_die.specs.Flash.{block_at, cell_at, blocks_after_program, blocks_after_erase_slot}
use Rattle.flash_die.specs.Memory.{Memory}
use Rattle.flash_die.specs.declared.nand.NandCall.{NandCall}
use Rattle.flash_die.specs.declared.nand.NandCall.TheVariants as needs
use Rattle.slot_core.specs.declared.next_slot.NextAct.{NextAct}
use Rattle.slot_core.specs.declared.next_slot.NextAct.TheVariants as acts
use Rattle.slot_core.specs.declared.next_slot.NextSlot.{NextSlot}
use Rattle.stepped_die.specs.declared.calls.Call.{Call}
use Rattle.stepped_die.specs.declared.calls.Call.TheVariants as calls

-- a call takes a device to this one, of which the blocks alone may be others
abbrev pub Does : Memory → NandCall → Memory → Type 0
Does before (needs.Read place) after = after ≡ before
Does before (needs.Program place page bytes) after = after ≡ record before { blocks = blocks_after_program before.blocks place.block bytes }
Does before (needs.EraseSlot block) after = after ≡ record before { blocks = blocks_after_erase_slot before.blocks before.shape.erase_slots block }

-- a call of the device ends well, and does what it says
pub record DoesWell (before : Memory) (call : NandCall) (well : Bool) (after : Memory) : Type 0 where
  pub ends_well : well ≡ true
  pub does : Does before call after

-- what a driver is reported of a call: of a read what the cell was programmed with, of a program how often its block was
-- erased, of an erase whether the slot is its last
abbrev pub reported_of : Memory → NandCall → Call
reported_of device (needs.Read place) = calls.Read place (cell_at device.blocks place)
reported_of device (needs.Program place page bytes) = calls.Program place bytes (block_at device.blocks place.block).erases
reported_of device (needs.EraseSlot block) = calls.Erase block ((block_at device.blocks block).erasing + 1 == device.shape.erase_slots)

abbrev pub call_reported : Memory → Option NandCall → Option Call
call_reported device None = None
call_reported device (Some call) = Some (reported_of device call)

-- a slot that trims a page needs no call of the device, and the page is what its driver is asked to note
abbrev pub reported_for : Memory → Option (ℕ × NextAct) → Option NandCall → Option Call
reported_for device (Some (job, acts.Trim page)) call = Some (calls.Trim page)
reported_for device _ call = call_reported device call

-- what a driver is asked to do in a slot
abbrev pub reported_by : Memory → NextSlot → Option Call
reported_by device slot = reported_for device slot.ran slot.call

-- the driver did what it was asked, and a read gave the bytes that the cell was programmed with
abbrev pub IsDone : Option Call → Bool → PageData → Type 0
IsDone None ok bytes = ⊤
IsDone (Some (calls.Read place programmed)) ok bytes = (ok ≡ true) × (bytes ≡ programmed)
IsDone (Some (calls.Program place programmed erases)) ok bytes = ok ≡ true
IsDone (Some (calls.Erase block last)) ok bytes = ok ≡ true
IsDone (Some (calls.Trim page)) ok bytes = ok ≡ true

-- after it a checkpoint that stood before isn't what stands
abbrev pub Spends : Option Call → Type 0
Spends None = ⊥
Spends (Some (calls.Read place bytes)) = ⊥
Spends (Some (calls.Program place bytes erases)) = ⊤
Spends (Some (calls.Erase block last)) = ⊤
Spends (Some (calls.Trim page)) = ⊤

-- what was asked is all that the cells of the mirror have had; where nothing was asked, and where a page is trimmed, they are
-- as they were
abbrev pub Changes : Memory → Option Call → Memory → Type 0
Changes before None after = after ≡ before
Changes before (Some (calls.Read place bytes)) after = (after ≡ before) × (bytes ≡ cell_at before.blocks place)
Changes before (Some (calls.Program place bytes erases)) after =
    (after ≡ record before { blocks = blocks_after_program before.blocks place.block bytes }) × (erases ≡ (block_at before.blocks place.block).erases)
Changes before (Some (calls.Erase block last)) after =
    (after ≡ record before { blocks = blocks_after_erase_slot before.blocks before.shape.erase_slots block })
    × (last ≡ ((block_at before.blocks block).erasing + 1 == before.shape.erase_slots))
Changes before (Some (calls.Trim page)) after = after ≡ before
