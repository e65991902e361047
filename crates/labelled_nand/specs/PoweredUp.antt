-- A part whose power has come, before anything was done to it.
use Rattle.std.specs.Prelude.{◌≡◌, ℕ, length, List, Some, map, replicate}
use Rattle.slot_types.specs.declared.pages.Place.{Place}
use Rattle.slot_types.specs.declared.plans.Shape.{Shape}
use Rattle.flash_die.specs.Flash.{Block, block_at, cell_at}
use Rattle.die_mount.specs.PartState.{closed_block}
use Rattle.power_loss.specs.Labels.{Label, Labels, Shown, label_at, labels_in}
use Rattle.die_log.specs.Model.Flash as model

-- a device's block as a log counts it: its programmed pages, the slots of its running erase, its erases
abbrev pub counts_of : Block → model.Block
counts_of block = record { filled = length block.pages; erasing = block.erasing; erases = block.erases }

-- labels are those of the programmed cells, and a cell with a label holds the label's bytes
pub record AreBorne (blocks : List Block) (labels : Shown) : Type 0 where
  pub count : length labels ≡ length blocks
  pub long : (b : ℕ) → length (labels_in labels b) ≡ length (block_at blocks b).pages
  pub bytes : (place : Place) (x : Label) → label_at labels place ≡ Some x → cell_at blocks place ≡ x.bytes

-- Each block counts as closed, and none is in erase. Erases are counted from here on. No call has failed.
pub record IsPoweredUp (shape : Shape) (blocks : List Block) (labels : Labels) (failures : ℕ) : Type 0 where
  pub closed : map counts_of blocks ≡ replicate shape.blocks (closed_block shape.pages)
  pub borne : AreBorne blocks labels.blocks
  pub well : failures ≡ 0
