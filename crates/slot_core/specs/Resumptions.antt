-- A die that goes on from a checkpoint: what a checkpoint says of a start, and the start that it makes.
use Rattle.std.specs.Prelude.{◌≡◌, ◌≢◌, List, map}
use Rattle.slot_types.specs.declared.pages.PageData.{PageData}
use Rattle.slot_types.specs.declared.plans.DiePlan.{DiePlan}
use Rattle.slot_types.specs.declared.plans.Shape.{Shape}
use Rattle.page_ledger.specs.Quiet.{quiet_accounts}
use Rattle.die_checkpoint.specs.declared.checkpoint.BlockCounts.{BlockCounts}
use Rattle.die_checkpoint.specs.declared.checkpoint.Checkpoint.{Checkpoint}
use Rattle.die_checkpoint.specs.declared.fault.CheckpointFault.TheVariants.{NoMemory}
use Rattle.die_checkpoint.specs.Faults.{HasCheckpointFault}
use Rattle.flash_die.specs.Flash as device
use Rattle.flash_volume.specs.Cells as volume
use Rattle.die_log.specs.Model.Start.{Start, Block}
use Rattle.slot_core.specs.Core.{Core}
use Rattle.slot_core.specs.Renewals.{RefusesRenewal, MayBeRenewed}
use Rattle.slot_core.specs.declared.resumptions.CheckpointRefusal.{CheckpointRefusal}
use Rattle.slot_core.specs.declared.resumptions.CheckpointRefusal.TheVariants as untaken
use Rattle.slot_core.specs.declared.resumptions.ResumeRefusal.{ResumeRefusal}
use Rattle.slot_core.specs.declared.resumptions.ResumeRefusal.TheVariants as unresumed

-- what a checkpoint says of a block
abbrev pub counts_in : Block → BlockCounts
counts_in block = record { filled = block.filled; erases = block.erases }

-- what stands at a start: where each page lies, the blocks, the spare pages and the balances
abbrev pub checkpoint_of : Start → Checkpoint
checkpoint_of start = record {
  places = start.cells.places;
  blocks = map counts_in start.cells.blocks;
  spare = start.accounts.spare;
  balances = start.accounts.balances;
}

-- a block of these counts that is not in erase
abbrev pub idle_block : BlockCounts → Block
idle_block counts = record { filled = counts.filled; erasing = 0; erases = counts.erases }

-- The start that a checkpoint makes with these pages. No block is in erase, no task holds a page for a job, and each
-- reserve is whole.
abbrev pub start_with : DiePlan → Checkpoint → List PageData → Start
start_with plan c pages = record {
  plan = plan;
  contents = pages;
  cells = record { blocks = map idle_block c.blocks; places = c.places };
  accounts = quiet_accounts plan c.spare c.balances;
}

-- the same over a device, which has the pages: each is what its cell holds, and blank if it lies nowhere
abbrev pub resumed_start : DiePlan → Checkpoint → List device.Block → Start
resumed_start plan c blocks = start_with plan c (volume.contents blocks c.places)

-- why no checkpoint is taken of a die: it can't be renewed either; or it could, and there is no memory
abbrev pub RefusesCheckpoint : {N : Type 0} → Core N → CheckpointRefusal → Type 0
RefusesCheckpoint core (untaken.NotRenewable why) = RefusesRenewal core why
RefusesCheckpoint core untaken.NoMemory = MayBeRenewed core

-- why a die isn't resumed: the device is of another shape than the plan; or it is of that shape, and this is the
-- checkpoint's first fault
abbrev pub RefusesResume : DiePlan → Checkpoint → Shape → ResumeRefusal → Type 0
RefusesResume plan c shape unresumed.OtherDevice = shape ≢ plan.shape
RefusesResume plan c shape (unresumed.Unfit fault) = (shape ≡ plan.shape) × HasCheckpointFault plan c fault

-- out of memory
abbrev pub no_memory : ResumeRefusal
no_memory = unresumed.Unfit NoMemory
