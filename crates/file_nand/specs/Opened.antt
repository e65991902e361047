-- What is found saved as a device is opened, and the cells that are put into its memory by it.
use Rattle.std.specs.Prelude.{◌≡◌, ℕ, ◌-◌, ◌<◌, ◌≤◌, ◌==◌, if◌then◌else◌, All, List, length}
use Rattle.slot_types.specs.declared.plans.Shape.{Shape}
use Rattle.die_checkpoint.specs.declared.checkpoint.BlockCounts.{BlockCounts}
use Rattle.die_checkpoint.specs.Counts.{counts_at}
use Rattle.flash_die.specs.Flash.{Block}
use Rattle.power_loss.specs.Aside.{on_die}
use Rattle.saving_nand.specs.declared.saved.Saved.{Saved}

-- no more pages are programmed in a block than it has, and no erase is counted yet
pub record IsUnerased (pages : ℕ) (counts : BlockCounts) : Type 0 where
  pub within : counts.filled ≤ pages
  pub unerased : counts.erases ≡ 0

-- what is saved is of a part of this shape
pub record IsOfPart (shape : Shape) (saved : Saved) : Type 0 where
  pub stands : saved.aside < shape.blocks
  pub count : length saved.checkpoint.blocks ≡ shape.blocks - 1
  pub each : All (IsUnerased shape.pages) saved.checkpoint.blocks

-- how many pages of a block of the part are programmed; none of the one aside
abbrev pub filled_on_part : (last aside : ℕ) → List BlockCounts → ℕ → ℕ
filled_on_part last aside counts block = if block == aside then 0 else (counts_at counts (on_die last aside block)).filled

-- a block that was filled so, and has had no erase
pub record IsFilled (filled : ℕ) (block : Block) : Type 0 where
  pub filled_is : length block.pages ≡ filled
  pub idle : block.erasing ≡ 0
  pub unerased : block.erases ≡ 0
