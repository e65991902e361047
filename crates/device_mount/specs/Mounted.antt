-- A die that began where a mount of its device ended.
use Rattle.std.specs.Prelude.{◌≡◌, ℕ, false, List, []}
use Rattle.slot_types.specs.declared.pages.PageData.{PageData}
use Rattle.slot_types.specs.declared.plans.DiePlan.{DiePlan}
use Rattle.die_log.specs.Model.Start.{Start}
use Rattle.die_mount.specs.declared.mounted.Mounted.{Mounted}
use Rattle.die_mount.specs.Ending.{checkpoint_beside}
use Rattle.die_mount.specs.Mounting.{IsAtEnd, Mounting}
use Rattle.die_mount.specs.SoundMount.{StandsWell}
use Rattle.part_mount.specs.OnPart.{once_erased}
use Rattle.power_loss.specs.Aside.{MountsTo, most_rounds_beside}
use Rattle.power_loss.specs.Labels.{Labels, Shown}
use Rattle.power_loss.specs.Mounted.{all_count}
use Rattle.power_loss.specs.Recovery.{FitRounds, IsFreeBlock}
use Rattle.slot_core.specs.Core.{Core}
use Rattle.labelled_die.specs.Beside.{Beside, labels_beside}
use Rattle.labelled_die.specs.Labelled.{HasLabels}

-- a mount has ended so: a block stands aside, the device beside it is as the checkpoint says, and the serial goes on
pub record HasEnded (m : Mounting) (erased : ℕ) (end : Mounted) : Type 0 where
  pub stands : StandsWell m
  pub at_end : IsAtEnd m
  pub free : IsFreeBlock m.cells end.aside
  pub checkpoint : end.checkpoint ≡ checkpoint_beside m.plan end.aside (once_erased erased m.cells)
  pub next : end.next ≡ m.next

-- The die

-- a mount goes there by what was seen, in no more rounds than full accounts take
pub record IsMountedStart (plan : DiePlan) (seen : Shown) (start : Start) (first : Labels) : Type 0 where
  pub mounts : MountsTo plan all_count seen start first
  pub rounds : FitRounds plan (most_rounds_beside plan) mounts.acts

-- where a mount could go on from what was seen, with these pages: the die's life begins with them, and with the labels
-- that stand on its device
abbrev pub BeginsLife : {N : Type 0} → (N → Labels) → DiePlan → Shown → List PageData → Core (Beside N) → Type 0
BeginsLife labels plan seen pages core =
    (first : Labels) × IsMountedStart plan seen core.start first × HasLabels (labels_beside labels) first core × (core.start.contents ≡ pages)

-- a die of this plan, in which nothing has happened yet
pub record HasBegun {N : Type 0} (plan : DiePlan) (core : Core N) : Type 0 where
  pub plan_is : core.start.plan ≡ plan
  pub begun : core.log ≡ []
  pub running : core.stopped ≡ false
