-- A call of a mount on a device: when the device may do it, and what it leaves.
use Rattle.std.specs.Prelude.{ℕ, List, Some}
use Rattle.slot_types.specs.declared.pages.PageData.{PageData}
use Rattle.flash_die.specs.Flash.{Block, IsErasable, IsNextCell, IsProgrammed, blocks_after_erase_slot, blocks_after_program, cell_at}
use Rattle.flash_die.specs.declared.nand.NandCall.TheVariants as does
use Rattle.die_mount.specs.declared.stage.MountCall.{MountCall}
use Rattle.die_mount.specs.declared.stage.MountCall.TheVariants as calls
use Rattle.labelled_nand.specs.Calls.{labels_after_call}
use Rattle.power_loss.specs.Labels.{Labels}

-- a device with these blocks, of `pages` pages each, may do the call
abbrev pub CanCarryOut : List Block → (pages : ℕ) → MountCall → Type 0
CanCarryOut blocks pages (calls.EraseSlot block) = IsErasable blocks pages block
CanCarryOut blocks pages (calls.Read place) = IsProgrammed blocks place
CanCarryOut blocks pages (calls.Program place label) = IsNextCell blocks pages place

-- where an erase takes `slots` slots: the blocks after the call, if it ends well. A program has the bytes that were
-- read last
abbrev pub blocks_by : (slots : ℕ) → PageData → MountCall → List Block → List Block
blocks_by slots held (calls.EraseSlot block) blocks = blocks_after_erase_slot blocks slots block
blocks_by slots held (calls.Read place) blocks = blocks
blocks_by slots held (calls.Program place label) blocks = blocks_after_program blocks place.block held

-- and the labels. A program's label is the call's
abbrev pub labels_by : (slots : ℕ) → PageData → MountCall → List Block → Labels → Labels
labels_by slots held (calls.EraseSlot block) blocks l = labels_after_call slots blocks (does.EraseSlot block) l
labels_by slots held (calls.Read place) blocks l = l
labels_by slots held (calls.Program place label) blocks l =
    labels_after_call slots blocks (does.Program place (Some label.page) held) (record l { next = label.serial })

-- what was read last
abbrev pub held_by : MountCall → List Block → PageData → PageData
held_by (calls.EraseSlot block) blocks held = held
held_by (calls.Read place) blocks held = cell_at blocks place
held_by (calls.Program place label) blocks held = held
