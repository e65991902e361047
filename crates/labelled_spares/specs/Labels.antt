-- The labels of a device with spare blocks: those of the blocks that have its numbers.
use Rattle.std.specs.Prelude.{◌≡◌, ℕ, Bool, true, List, map, Option, Some, None, option_map}
use Rattle.std.specs.List.{range_with_len}
use Rattle.slot_types.specs.declared.pages.PageData.{PageData}
use Rattle.flash_die.specs.declared.nand.NandCall.{NandCall}
use Rattle.labelled_nand.specs.Calls.{labels_after_call}
use Rattle.labelled_nand.specs.declared.look.Look.{Look}
use Rattle.labelled_nand.specs.declared.look.Look.TheVariants as looks
use Rattle.power_loss.specs.Labels.{Label, Labels}
use Rattle.spare_blocks.specs.declared.cells.Cell.{Cell}
use Rattle.spare_blocks.specs.declared.cells.Mark.{Mark}
use Rattle.spare_blocks.specs.Parts.{PartBlock}
use Rattle.spare_blocks.specs.Spares.{Spared, numbered, spared_blocks, EndsSpared}

-- a mark with the bytes of its cell
abbrev pub label_of : PageData → Mark → Label
label_of bytes x = record { page = x.page; serial = x.serial; bytes = bytes }

abbrev pub cell_label : Cell → Option Label
cell_label cell = option_map (label_of cell.bytes) cell.mark

-- those of a block's programmed cells
abbrev pub block_labels : PartBlock → List (Option Label)
block_labels b = map cell_label b.cells

-- by number of the plan, whichever block of the part has the number
abbrev pub spared_labels : {N : Type 0} → (N → List PartBlock) → (next : N → ℕ) → Spared N → Labels
spared_labels blocks next d = record {
  blocks = map (λ b. block_labels (numbered blocks d b)) (range_with_len 0 d.shape.blocks);
  next = next d.part;
}

-- A call ends as on the device below, and where it ends well it leaves the labels that it should.
pub record EndsLabelled {N : Type 0} (blocks : N → List PartBlock) (next spent : N → ℕ) (keeps : Bool)
    (before : Spared N) (call : NandCall) (well : Bool) (after : Spared N) : Type 0 where
  pub spares : EndsSpared blocks next spent keeps before call well after
  pub labels : well ≡ true → spared_labels blocks next after
      ≡ labels_after_call before.shape.erase_slots (spared_blocks blocks before) call (spared_labels blocks next before)

-- what a look shows of a cell that holds this: without a mark it isn't good
abbrev pub look_at : PageData → Option Mark → Look
look_at bytes None = looks.Torn
look_at bytes (Some mark) = looks.Good (record { page = mark.page; serial = mark.serial }) bytes

abbrev pub look_of : Option Cell → Look
look_of None = looks.Blank
look_of (Some cell) = look_at cell.bytes cell.mark
