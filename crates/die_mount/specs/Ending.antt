-- Where a mount has ended: the die beside the block that stands aside.
use Rattle.std.specs.Prelude.{◌≡◌, ℕ, List, map, sum_by}
use Rattle.slot_types.specs.declared.pages.PageData.{PageData}
use Rattle.slot_types.specs.declared.plans.DiePlan.{DiePlan}
use Rattle.die_checkpoint.specs.declared.checkpoint.BlockCounts.{BlockCounts}
use Rattle.die_checkpoint.specs.declared.checkpoint.Checkpoint.{Checkpoint}
use Rattle.die_log.specs.Model.Flash.{Block, Cells, free_in}
use Rattle.die_log.specs.Model.Start.{Start}
use Rattle.power_loss.specs.Aside.{die_cells}
use Rattle.power_loss.specs.Recovery.{IsFreeBlock, full_accounts, mounted_start}
use Rattle.die_mount.specs.declared.mounted.Mounted.{Mounted}
use Rattle.die_mount.specs.Erases.{counted}
use Rattle.die_mount.specs.Mounting.{Mounting}

-- where a log starts on the die beside this block of the part, with full accounts and these pages
abbrev pub start_beside : DiePlan → (aside : ℕ) → Cells → List PageData → Start
start_beside plan aside c pages =
    let own = die_cells plan.shape.blocks aside c in
    mounted_start plan own pages (full_accounts plan (sum_by (free_in plan) own.blocks))

abbrev pub counts_of : Block → BlockCounts
counts_of b = record { filled = b.filled; erases = b.erases }

-- what stands at such a start, whatever the pages are
abbrev pub checkpoint_beside : DiePlan → (aside : ℕ) → Cells → Checkpoint
checkpoint_beside plan aside c =
    let own = die_cells plan.shape.blocks aside c in record {
      places = own.places;
      blocks = map counts_of own.blocks;
      spare = (full_accounts plan (sum_by (free_in plan) own.blocks)).spare;
      balances = plan.caps;
    }

-- a wholly free block stands aside, what stands on the die beside it, where each block counts all the erases that it
-- has had, and the serial goes on
pub record IsEndOf (m : Mounting) (end : Mounted) : Type 0 where
  pub free : IsFreeBlock m.cells end.aside
  pub checkpoint : end.checkpoint ≡ checkpoint_beside m.plan end.aside (counted m.counts m.cells)
  pub next : end.next ≡ m.next
