-- A device in memory that keeps labels: by block its programmed cells.
use Rattle.std.specs.Prelude.{◌≡◌, ℕ, ◌-◌, Bool, true, length, List, [], ◌++◌, Option, None, map, option_map, replicate}
use Rattle.std.specs.Prelude.{slice_index_or, slice_set}
use Rattle.slot_types.specs.declared.pages.PageData.{PageData}
use Rattle.slot_types.specs.declared.pages.Place.{Place}
use Rattle.slot_types.specs.declared.plans.Shape.{Shape}
use Rattle.flash_die.specs.Flash.{Block, blank}
use Rattle.flash_die.specs.declared.nand.NandCall.{NandCall}
use Rattle.die_mount.specs.declared.label.Label.{Label as Told}
use Rattle.power_loss.specs.Labels.{Label, Labels}
use Rattle.labelled_nand.specs.Calls.{labels_after_call}
use Rattle.labelled_nand.specs.declared.memory.MarkedCell.{MarkedCell}

-- a block: its programmed cells, the slots that its running erase has had, its erases
pub record MarkedCells : Type 0 where
  pub cells : List MarkedCell
  pub erasing : ℕ
  pub erases : ℕ

-- a device as its callers see it, with the serial of the next program
pub record Marked : Type 0 where
  pub shape : Shape
  pub blocks : List MarkedCells
  pub next : ℕ

abbrev pub no_cells : MarkedCells
no_cells = record { cells = []; erasing = 0; erases = 0 }

abbrev pub fresh_marked : Shape → ℕ → Marked
fresh_marked shape serial = record {
  shape = shape;
  blocks = replicate shape.blocks no_cells;
  next = serial;
}

-- a block as the device has it
abbrev pub device_block : MarkedCells → Block
device_block b = record { pages = map (λ cell. cell.bytes) b.cells; erasing = b.erasing; erases = b.erases }

abbrev pub device_blocks : Marked → List Block
device_blocks m = map device_block m.blocks

-- the label of a cell, with the cell's bytes
abbrev pub label_of : PageData → Told → Label
label_of bytes x = record { page = x.page; serial = x.serial; bytes = bytes }

abbrev pub cell_label : MarkedCell → Option Label
cell_label cell = option_map (label_of cell.bytes) cell.label

abbrev pub block_labels : MarkedCells → List (Option Label)
block_labels b = map cell_label b.cells

abbrev pub device_labels : Marked → Labels
device_labels m = record { blocks = map block_labels m.blocks; next = m.next }

-- each call ends well, and leaves the labels that it should
pub record EndsMarked (before : Marked) (call : NandCall) (well : Bool) (after : Marked) : Type 0 where
  pub ends_well : well ≡ true
  pub labels : device_labels after ≡ labels_after_call before.shape.erase_slots (device_blocks before) call (device_labels before)

-- Without power

-- a cell without a label, as a program or an erase leaves it that was cut
abbrev pub torn_cell : MarkedCell
torn_cell = record { bytes = blank; label = None }

abbrev pub marked_at : List MarkedCells → ℕ → MarkedCells
marked_at blocks b = slice_index_or blocks b no_cells

-- a block of which this cell is torn
abbrev pub torn_at : ℕ → MarkedCells → MarkedCells
torn_at page b = record b { cells = slice_set b.cells page torn_cell }

abbrev pub with_torn : Place → Marked → Marked
with_torn place m = record m { blocks = slice_set m.blocks place.block (torn_at place.page (marked_at m.blocks place.block)) }

-- a block of `pages` pages counts as closed: each cell that wasn't programmed is one without a label
abbrev pub closed_cells : (pages : ℕ) → MarkedCells → MarkedCells
closed_cells pages b = record { cells = b.cells ++ replicate (pages - length b.cells) torn_cell; erasing = 0; erases = 0 }

-- the device once its power has come again: programs are numbered from 0 on, until its owner says otherwise
abbrev pub powered_up : Marked → Marked
powered_up m = record m { blocks = map (closed_cells m.shape.pages) m.blocks; next = 0 }
