-- What reading and writing a page changes.
use Rattle.std.specs.Prelude.{◌≡◌, ℕ, List, length, Some, slice_index_or, slice_set}
use Rattle.slot_types.specs.declared.pages.Place.{Place}
use Rattle.slot_types.specs.declared.pages.PageData.{PageData}
use Rattle.plan_rules.specs.Accounts.{accounts_after_write}
use Rattle.flash_die.specs.Flash.{Block, blank, blocks_after_program}
use Rattle.flash_volume.specs.Cells.{next_cell}
use Rattle.flash_volume.specs.State.{State}

-- the cell that is written next
abbrev pub next_in : {N : Type 0} → (N → List Block) → State N → Place
next_in blocks volume = next_cell volume.accounts.plan.shape.pages (blocks volume.device)

-- The page holds these bytes, and to read them changed neither a cell nor what any page holds.
pub record HasRead {N : Type 0} (blocks : N → List Block) (page : ℕ) (bytes : PageData) (old new : State N) : Type 0 where
  pub bytes_are : bytes ≡ slice_index_or old.pages page blank
  pub cells : blocks new.device ≡ blocks old.device
  pub pages : new.pages ≡ old.pages

-- The page was written to the free cell that was next: it holds the bytes and lies there, for which the task spent a
-- page that it held. No collection goes on.
pub record HasWritten {N : Type 0} (blocks : N → List Block) (task page : ℕ) (bytes : PageData) (old new : State N) : Type 0 where
  pub cells : blocks new.device ≡ blocks_after_program (blocks old.device) (next_in blocks old).block bytes
  pub places : new.places ≡ slice_set old.places page (Some (next_in blocks old))
  pub pages : new.pages ≡ slice_set old.pages page bytes
  pub accounts : new.accounts ≡ accounts_after_write old.accounts task
  pub running : new.running ≡ old.running

-- There are as many pages as before, each lies where it lay, and the accounts and the running collections stay.
pub record KeepsBooks {N : Type 0} (old new : State N) : Type 0 where
  pub count : length new.pages ≡ length old.pages
  pub places : new.places ≡ old.places
  pub accounts : new.accounts ≡ old.accounts
  pub running : new.running ≡ old.running
