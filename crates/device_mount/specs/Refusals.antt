-- Why a part isn't mounted.
use Rattle.std.specs.Prelude.{◌≡◌, ◌≢◌, ℕ, ◌<◌, ⊤}
use Rattle.slot_types.specs.declared.plans.DiePlan.{DiePlan}
use Rattle.slot_types.specs.declared.plans.Shape.{Shape}
use Rattle.die_mount.specs.Faults.{IsMountPlan}
use Rattle.labelled_die.specs.Scanning.{IsOtherLabel}
use Rattle.labelled_die.specs.declared.scanning.PartFault.{PartFault}
use Rattle.labelled_die.specs.declared.scanning.PartFault.TheVariants as scans
use Rattle.power_loss.specs.Aside.{part_of}
use Rattle.power_loss.specs.Labels.{FitPlan, Shown}
use Rattle.power_loss.specs.Mounted.{all_count}
use Rattle.power_loss.specs.Recovery.{FindsNoneIn, IsNewestBlock}
use Rattle.device_mount.specs.Parts.{IsPlanOf, KeepsPage}
use Rattle.device_mount.specs.declared.refusals.MountRefusal.{MountRefusal}
use Rattle.device_mount.specs.declared.refusals.MountRefusal.TheVariants as faults

abbrev pub refusal_of : PartFault → MountRefusal
refusal_of scans.BadPlan = faults.BadPlan
refusal_of scans.OtherShape = faults.OtherShape
refusal_of scans.NoMemory = faults.NoMemory
refusal_of (scans.OtherLabel block cell) = faults.OtherLabel block cell
refusal_of scans.DeviceFault = faults.DeviceFault

-- without this block some page is found with other bytes, or nowhere
abbrev pub LosesPage : DiePlan → Shown → (block : ℕ) → Type 0
LosesPage plan seen block = (page : ℕ) × (page < plan.logical) × (¬ KeepsPage seen block page)

-- a page is found in each block of the part, and some page is lost without the newest one
pub record NeedsEachBlock (plan : DiePlan) (seen : Shown) : Type 0 where
  pub none_idle : (block : ℕ) → block < plan.shape.blocks → FindsNoneIn plan all_count seen block → ⊥
  pub newest : ℕ
  pub is_newest : IsNewestBlock seen newest
  pub loses : LosesPage plan seen newest

-- why no mount is made by a scan, where a block has to be idle
abbrev pub RefusesBegin : (IsIdle : Type 0) → MountRefusal → Type 0
RefusesBegin IsIdle faults.NoMemory = ⊤
RefusesBegin IsIdle faults.NoIdleBlock = ¬ IsIdle
RefusesBegin IsIdle _ = ⊥

-- a cause stands, and none before it does; of blocks where no two labels have one serial, as a device owes
abbrev pub RefusesMount : DiePlan → Shape → Shown → (failures : ℕ) → MountRefusal → Type 0
RefusesMount plan shape seen failures faults.BadPlan = ¬ IsMountPlan plan
RefusesMount plan shape seen failures faults.OtherShape = IsMountPlan plan × (shape ≢ (part_of plan).shape)
RefusesMount plan shape seen failures faults.NoMemory = IsPlanOf plan shape
RefusesMount plan shape seen failures (faults.OtherLabel block cell) = IsPlanOf plan shape × IsOtherLabel plan.logical shape.pages seen block cell
RefusesMount plan shape seen failures faults.NoIdleBlock = IsPlanOf plan shape × (FitPlan (part_of plan) seen → NeedsEachBlock (part_of plan) seen)
RefusesMount plan shape seen failures faults.DeviceFault = IsPlanOf plan shape × (failures ≡ 1)
