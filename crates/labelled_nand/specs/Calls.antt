-- What the calls of a device leave of its labels.
use Rattle.std.specs.Prelude.{ℕ, ◌+◌, ◌-◌, ◌^◌, ◌==◌, min, List, [], ◌∷◌, ◌++◌, Some, None, if◌then◌else◌, slice_set}
use Rattle.flash_die.specs.Flash.{Block, block_at}
use Rattle.flash_die.specs.declared.nand.NandCall.{NandCall}
use Rattle.flash_die.specs.declared.nand.NandCall.TheVariants as calls
use Rattle.power_loss.specs.Labels.{Labels, labels_in, labels_after_program}

-- the next serial is one more, up to the greatest that there is
abbrev pub serial_after : ℕ → ℕ
serial_after serial = min (serial + 1) (2 ^ 64 - 1)

-- a program that wasn't given its page leaves no label in its cell
abbrev pub labels_after_unnamed : ℕ → Labels → Labels
labels_after_unnamed b l = record l { blocks = slice_set l.blocks b (labels_in l.blocks b ++ None ∷ []) }

-- where the blocks were these, and an erase takes `slots` slots: a program leaves the next label, and the last slot of
-- an erase takes the block's away
abbrev pub labels_after_call : (slots : ℕ) → List Block → NandCall → Labels → Labels
labels_after_call slots blocks (calls.Read place) l = l
labels_after_call slots blocks (calls.Program place None bytes) l = labels_after_unnamed place.block l
labels_after_call slots blocks (calls.Program place (Some page) bytes) l =
    record (labels_after_program page bytes (Some place.block) l) { next = serial_after l.next }
labels_after_call slots blocks (calls.EraseSlot b) l =
    if (block_at blocks b).erasing + 1 == slots then record l { blocks = slice_set l.blocks b [] } else l
