-- Why a mount can't go on after its scan.
use Rattle.std.specs.Prelude.{◌≡◌, ℕ, ◌<◌, List, Option, length, count_by}
use Rattle.slot_types.specs.Places.{is_in}
use Rattle.slot_types.specs.declared.plans.DiePlan.{DiePlan}
use Rattle.power_loss.specs.Aside.{part_of}
use Rattle.power_loss.specs.Labels.{Shown}
use Rattle.power_loss.specs.Mounted.{all_count, mounted_places}
use Rattle.power_loss.specs.Recovery.{IsAbove, MayErase, without_block}
use Rattle.die_mount.specs.declared.begin_fault.BeginFault.{BeginFault}
use Rattle.die_mount.specs.declared.begin_fault.BeginFault.TheVariants as begin
use Rattle.die_mount.specs.Erases.{AreUnworn, IsFirstWorn}
use Rattle.die_mount.specs.Faults.{IsMountPlan}
use Rattle.die_mount.specs.Mounting.{Mounting, BeginsWith}
use Rattle.die_mount.specs.Scanned.{Scanned}

-- a plan that may be used, and the one for which the part was scanned: as many blocks less one, and as many pages
pub record IsScanned (plan : DiePlan) (s : Scanned) : Type 0 where
  pub may : IsMountPlan plan
  pub shape : s.shape ≡ (part_of plan).shape
  pub logical : length s.places ≡ plan.logical

-- a block of the part in which no page was found
pub record IsIdleIn (s : Scanned) (block : ℕ) : Type 0 where
  pub stands : block < s.shape.blocks
  pub none : count_by (is_in block) s.places ≡ 0

abbrev pub HasIdle : Scanned → Type 0
HasIdle s = (block : ℕ) × IsIdleIn s block

-- a fault stands, and none before it does, where a block has to be idle, and where this was reported of erases
abbrev pub HasBeginFault : DiePlan → Scanned → List (Option ℕ) → (IsIdle : Type 0) → BeginFault → Type 0
HasBeginFault plan s told IsIdle begin.BadPlan = ¬ IsScanned plan s
HasBeginFault plan s told IsIdle begin.NoIdleBlock = IsScanned plan s × (¬ IsIdle)
HasBeginFault plan s told IsIdle (begin.WornOut block) = IsScanned plan s × IsIdle × IsFirstWorn plan told block
HasBeginFault plan s told IsIdle begin.NoMemory = IsScanned plan s × IsIdle × AreUnworn plan told

-- it begins with what was seen, where each page that is found without this block is found there, where the block may be
-- erased, and where the serial is above all
abbrev pub BeginsAt : DiePlan → Scanned → (block next : ℕ) → Mounting → Type 0
BeginsAt plan s block next m = (seen : Shown) → mounted_places all_count plan.logical (without_block block seen) ≡ s.places
    → MayErase (part_of plan) all_count seen block → IsAbove seen all_count next → BeginsWith plan seen m
