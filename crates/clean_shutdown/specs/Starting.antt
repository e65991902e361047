-- How a die is started on a part: from what a clean shutdown saved, or by a mount.
use Rattle.std.specs.Prelude.{◌≡◌, ℕ, ◌+◌, ◌-◌, List, Option, Some, None, ⊤}
use Rattle.slot_types.specs.declared.pages.PageData.{PageData}
use Rattle.slot_types.specs.declared.plans.DiePlan.{DiePlan}
use Rattle.slot_types.specs.declared.plans.Shape.{Shape}
use Rattle.flash_die.specs.Flash.{Block, free_block}
use Rattle.die_checkpoint.specs.Fits.{Fits}
use Rattle.power_loss.specs.Aside.{StandsOnPart, die_labels, without_aside}
use Rattle.power_loss.specs.Labels.{Labels, Shown}
use Rattle.power_loss.specs.Mounted.{all_count}
use Rattle.slot_core.specs.Core.{Core}
use Rattle.slot_core.specs.Resumptions.{resumed_start}
use Rattle.labelled_die.specs.Beside.{Beside, labels_beside}
use Rattle.saving_nand.specs.declared.saved.Saved.{Saved}
use Rattle.saving_nand.specs.Saving.{closed_labels}
use Rattle.device_mount.specs.Mounted.{BeginsLife}
use Rattle.device_mount.specs.Refusals.{RefusesMount}
use Rattle.device_mount.specs.declared.refusals.MountRefusal.TheVariants as mounts
use Rattle.clean_shutdown.specs.declared.refusals.StartRefusal.{StartRefusal}
use Rattle.clean_shutdown.specs.declared.refusals.StartRefusal.TheVariants as starts

-- the shape of a part without one of its blocks
abbrev pub beside_one : Shape → Shape
beside_one shape = record shape { blocks = shape.blocks - 1 }

-- what is saved is of this plan, where the die's device has this shape
abbrev pub FitsPart : DiePlan → Shape → Saved → Type 0
FitsPart plan shape saved = (shape ≡ plan.shape) × Fits plan saved.checkpoint

-- something is saved on a part of this shape, and fits the plan
abbrev pub GoesOnFrom : DiePlan → Shape → Option Saved → Type 0
GoesOnFrom plan shape None = ⊥
GoesOnFrom plan shape (Some saved) = FitsPart plan (beside_one shape) saved

-- The die goes on from what was saved, where the part had these blocks and these labels: with the pages that lie where
-- the checkpoint has them, and with the labels that stand there. Nothing is saved on its part any more.
pub record GoesOn {N : Type 0} (saved_of : N → Option Saved) (labels_of : N → Labels) (plan : DiePlan) (blocks : List Block) (labels : Labels)
    (saved : Saved) (core : Core (Beside N)) : Type 0 where
  pub void : saved_of core.device.part ≡ None
  pub aside : core.device.aside ≡ saved.aside
  pub start : core.start ≡ resumed_start plan saved.checkpoint (without_aside plan.shape.blocks saved.aside free_block blocks)
  pub labels_are : labels_beside labels_of core.device ≡ die_labels plan.shape.blocks saved.aside labels

-- The die begins the life that a mount begins by these labels. Nothing is saved on its part any more.
pub record BeginsByMount {N : Type 0} (saved_of : N → Option Saved) (labels_of : N → Labels) (plan : DiePlan) (shown : Shown) (core : Core (Beside N))
    : Type 0 where
  pub void : saved_of core.device.part ≡ None
  pub life : (pages : List PageData) → StandsOnPart plan pages all_count shown → BeginsLife labels_of plan shown pages core

-- what a mount is shown: where something was saved each block counts as closed then
abbrev pub shown_of : (pages : ℕ) → Option Saved → Shown → Shown
shown_of pages None shown = shown
shown_of pages (Some saved) shown = closed_labels pages shown

-- why no die is started on a part
abbrev pub RefusesStart : DiePlan → Shape → Option Saved → Shown → (before after : ℕ) → StartRefusal → Type 0
RefusesStart plan shape saved shown before after starts.NotTaken = after ≡ before + 1
RefusesStart plan shape saved shown before after starts.NoMemory = (s : Saved) × (saved ≡ Some s) × (beside_one shape ≡ plan.shape)
RefusesStart plan shape saved shown before after (starts.NotMounted why) =
    (¬ GoesOnFrom plan shape saved) × RefusesMount plan shape shown after why

-- it is for memory alone, also where the part would be mounted
abbrev pub IsForMemory : StartRefusal → Type 0
IsForMemory starts.NotTaken = ⊥
IsForMemory starts.NoMemory = ⊤
IsForMemory (starts.NotMounted why) = why ≡ mounts.NoMemory
