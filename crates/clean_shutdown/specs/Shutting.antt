-- What a clean shutdown leaves.
use Rattle.std.specs.Prelude.{◌≡◌, ℕ, List, Option, Some}
use Rattle.slot_types.specs.declared.plans.Shape.{Shape}
use Rattle.slot_types.specs.declared.refusals.Refusal.{Refusal}
use Rattle.flash_die.specs.Flash.{Block}
use Rattle.die_checkpoint.specs.declared.checkpoint.Checkpoint.{Checkpoint}
use Rattle.die_log.specs.Model.Opening.{renewed_start}
use Rattle.power_loss.specs.Labels.{Labels}
use Rattle.slot_core.specs.Core.{Core}
use Rattle.slot_core.specs.Renewals.{MayBeRenewed}
use Rattle.slot_core.specs.Resumptions.{RefusesCheckpoint, checkpoint_of, resumed_start}
use Rattle.labelled_die.specs.Beside.{Beside, blocks_beside}
use Rattle.saving_nand.specs.declared.saved.Saved.{Saved}
use Rattle.saving_nand.specs.Saving.{RefusesSave}
use Rattle.clean_shutdown.specs.declared.refusals.NotShutDown.{NotShutDown}
use Rattle.clean_shutdown.specs.declared.refusals.NotShutDown.TheVariants as shuts

-- what is saved of a die with this device: the block aside, the next serial, and its checkpoint
abbrev pub saved_of : {N : Type 0} → (N → Labels) → Beside N → Checkpoint → Saved
saved_of labels d checkpoint = record { aside = d.aside; next = (labels d.part).next; checkpoint = checkpoint }

-- a part has it, and is what the device had
pub record IsSavedOn {N : Type 0} (saved : N → Option Saved) (shape_of : N → Shape) (blocks : N → List Block) (labels : N → Labels) (failures : N → ℕ)
    (d : Beside N) (checkpoint : Checkpoint) (part : N) : Type 0 where
  pub has : saved part ≡ Some (saved_of labels d checkpoint)
  pub shape : shape_of part ≡ shape_of d.part
  pub blocks_are : blocks part ≡ blocks d.part
  pub labels_are : labels part ≡ labels d.part
  pub well : failures part ≡ 0

-- the checkpoint of a die makes the start that a renewal would make
abbrev pub ResumesAsRenewed : {N : Type 0} → (blocks : N → List Block) → Core (Beside N) → Type 0
ResumesAsRenewed blocks core =
    resumed_start core.start.plan (checkpoint_of (renewed_start core.start core.log)) (blocks_beside blocks core.device) ≡ renewed_start core.start core.log

-- it isn't saved, and is handed back: there is no memory, and the part is as it was; or the part has failed
pub record IsUnsaved {N : Type 0} (failures : N → ℕ) (labels : N → Labels) (d : Beside N) (checkpoint : Checkpoint) (part : N) (back : Saved)
    (refusal : Refusal) : Type 0 where
  pub back_is : back ≡ saved_of labels d checkpoint
  pub why : RefusesSave 0 (failures part) refusal

-- a die isn't shut down: no checkpoint is taken of it, and it is as it was; or it is taken, and isn't saved
abbrev pub RefusesShutdown : {N : Type 0} → (N → ℕ) → (N → Labels) → Core (Beside N) → NotShutDown N → Type 0
RefusesShutdown failures labels core (shuts.AtWork back why) = (back ≡ core) × RefusesCheckpoint core why
RefusesShutdown failures labels core (shuts.NotSaved unsaved) =
    MayBeRenewed core × IsUnsaved failures labels core.device (checkpoint_of (renewed_start core.start core.log)) unsaved.part unsaved.saved unsaved.refusal
