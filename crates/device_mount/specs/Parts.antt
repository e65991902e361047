-- A part that may be mounted by a plan, and what a mount of it keeps as it erases its first block.
use Rattle.std.specs.Prelude.{◌≡◌, ℕ, ◌+◌, ◌<◌, List, Some, None, length}
use Rattle.slot_types.specs.declared.pages.Place.{Place}
use Rattle.slot_types.specs.declared.plans.DiePlan.{DiePlan}
use Rattle.slot_types.specs.declared.plans.Shape.{Shape}
use Rattle.flash_die.specs.Flash.{Block}
use Rattle.die_mount.specs.Faults.{IsMountPlan}
use Rattle.die_mount.specs.Mounting.{Mounting}
use Rattle.die_mount.specs.Told.{HaveFitLabels, told_cells}
use Rattle.die_mount.specs.declared.stage.Stage.TheVariants as stage
use Rattle.labelled_die.specs.Scanning.{cells_shown}
use Rattle.labelled_nand.specs.PoweredUp.{IsPoweredUp}
use Rattle.power_loss.specs.Aside.{part_of}
use Rattle.power_loss.specs.Labels.{FitPlan, Label, Labels, Shown, label_at}
use Rattle.power_loss.specs.Mounted.{all_count, mounted_content}
use Rattle.power_loss.specs.Recovery.{without_block}

-- a plan that may be used, of the part's shape with one block less
abbrev pub IsPlanOf : DiePlan → Shape → Type 0
IsPlanOf plan shape = IsMountPlan plan × (shape ≡ (part_of plan).shape)

-- each label is of one of the plan's pages, and has a serial in its range
abbrev pub AreOfPart : DiePlan → Shown → Type 0
AreOfPart plan seen = (block : ℕ) → block < plan.shape.blocks + 1
    → HaveFitLabels plan.logical (told_cells (cells_shown seen block plan.shape.pages))

-- a part that was powered up, of this plan, which was scanned
pub record IsPartOf {N : Type 0} (shape_of : N → Shape) (blocks : N → List Block) (labels : N → Labels) (failures : N → ℕ) (plan : DiePlan) (part : N)
    : Type 0 where
  pub powered : IsPoweredUp (shape_of part) (blocks part) (labels part) (failures part)
  pub of_plan : IsPlanOf plan (shape_of part)
  pub fit : AreOfPart plan (labels part).blocks

-- no cell of a part of this plan shows a label, as on one on which nothing was ever programmed
pub record ShowsNothing (plan : DiePlan) (seen : Shown) : Type 0 where
  pub blocks : length seen ≡ plan.shape.blocks + 1
  pub none : (place : Place) → label_at seen place ≡ None

-- the cell has a label
abbrev pub HasLabel : Shown → Place → Type 0
HasLabel seen place = (x : Label) × (label_at seen place ≡ Some x)

-- without this block the page is found with the bytes that it has
abbrev pub KeepsPage : Shown → (block page : ℕ) → Type 0
KeepsPage seen block page = mounted_content (all_count page) page (without_block block seen) ≡ mounted_content (all_count page) page seen

-- and so is each page
abbrev pub KeepsPages : DiePlan → Shown → (block : ℕ) → Type 0
KeepsPages plan seen block = (page : ℕ) → page < plan.logical → KeepsPage seen block page

-- where no two labels have one serial, the block that a mount erases first is one without which each page is found
pub record BeginsSafely (plan : DiePlan) (seen : Shown) (m : Mounting) : Type 0 where
  pub block : ℕ
  pub stage_is : m.stage ≡ stage.First block 0
  pub keeps : FitPlan (part_of plan) seen → KeepsPages plan seen block
