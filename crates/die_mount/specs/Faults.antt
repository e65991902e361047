-- Why a mount can't begin, and why cells can't be those of the next block.
use Rattle.std.specs.Prelude.{◌≡◌, ℕ, ◌<◌, ◌≤◌, List, Option, Some, length}
use Rattle.slot_types.specs.declared.plans.DiePlan.{DiePlan}
use Rattle.plan_rules.specs.Bound.{MeetsBound}
use Rattle.die_mount.specs.declared.label.Label.{Label}
use Rattle.die_mount.specs.declared.scan.MountFault.{MountFault}
use Rattle.die_mount.specs.declared.scan.MountFault.TheVariants as mount
use Rattle.die_mount.specs.declared.scan.ScanFault.{ScanFault}
use Rattle.die_mount.specs.declared.scan.ScanFault.TheVariants as faults
use Rattle.die_mount.specs.Scanned.{Scanned}
use Rattle.die_mount.specs.Told.{told_at, IsFitLabel, HaveFitLabels}

-- a plan that may be used, of a die that leaves one of a part's blocks aside
abbrev pub IsMountPlan : DiePlan → Type 0
IsMountPlan plan = MeetsBound plan × (plan.shape.blocks < 1024)

abbrev pub HasMountFault : DiePlan → MountFault → Type 0
HasMountFault plan mount.BadPlan = ¬ IsMountPlan plan
HasMountFault plan mount.NoMemory = IsMountPlan plan

-- cells that may be told next
pub record IsNextBlock (s : Scanned) (cells : List (Option Label)) : Type 0 where
  pub more : s.told < s.shape.blocks
  pub few : length cells ≤ s.shape.pages
  pub labels : HaveFitLabels (length s.places) cells

-- the first cell with a label that can't be of the part
pub record IsFirstBad (logical : ℕ) (cells : List (Option Label)) (cell : ℕ) : Type 0 where
  pub label : Label
  pub stands : told_at cells cell ≡ Some label
  pub bad : ¬ IsFitLabel logical label
  pub first : (k : ℕ) (x : Label) → k < cell → told_at cells k ≡ Some x → IsFitLabel logical x

-- a fault stands, and none before it does
abbrev pub HasScanFault : Scanned → List (Option Label) → ScanFault → Type 0
HasScanFault s cells faults.NoMoreBlocks = s.shape.blocks ≤ s.told
HasScanFault s cells faults.TooManyCells = (s.told < s.shape.blocks) × (s.shape.pages < length cells)
HasScanFault s cells (faults.BadLabel cell) = (s.told < s.shape.blocks) × (length cells ≤ s.shape.pages) × IsFirstBad (length s.places) cells cell
