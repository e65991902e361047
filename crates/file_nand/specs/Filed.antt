-- A device that keeps its cells in a file, as contracts see it: the device in memory that it goes by.
use Rattle.std.specs.Prelude.{◌≡◌, ℕ, Bool, true, List, Option, Some}
use Rattle.flash_die.specs.Flash.{Block}
use Rattle.flash_die.specs.declared.nand.NandCall.{NandCall}
use Rattle.labelled_nand.specs.Memory.{Marked, EndsMarked, device_blocks, device_labels}
use Rattle.power_loss.specs.Labels.{Labels}
use Rattle.saving_nand.specs.Saving.{IsLeftFor, StaysSaved}
use Rattle.saving_nand.specs.declared.saved.Saved.{Saved}

-- by block its cells, how many calls have failed, and what is saved
pub record Filed : Type 0 where
  pub marked : Marked
  pub failed : ℕ
  pub saved : Option Saved

abbrev pub filed_blocks : Filed → List Block
filed_blocks d = device_blocks d.marked

abbrev pub filed_labels : Filed → Labels
filed_labels d = device_labels d.marked

-- the next serial is known, and what is saved stands for the cells as they are
pub record IsSoundFiled (next : ℕ) (d : Filed) : Type 0 where
  pub next_is : next ≡ d.marked.next
  pub left : (saved : Saved) → d.saved ≡ Some saved → IsLeftFor d.marked.shape (filed_blocks d) (filed_labels d) d.failed saved

-- a call that ends well leaves the labels that it should; and each call of what is saved no more than it may
pub record EndsFiled (before : Filed) (call : NandCall) (well : Bool) (after : Filed) : Type 0 where
  pub marked : well ≡ true → EndsMarked before.marked call true after.marked
  pub saved : StaysSaved call before.saved after.saved
