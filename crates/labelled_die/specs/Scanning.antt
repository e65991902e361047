-- What a scan of a part shows a mount.
use Rattle.std.specs.Prelude.{◌≡◌, ◌≢◌, ℕ, ◌<◌, List, Option, None, map, slice_index_or}
use Rattle.std.specs.List.{range_with_len}
use Rattle.slot_types.specs.declared.plans.DiePlan.{DiePlan}
use Rattle.slot_types.specs.declared.plans.Shape.{Shape}
use Rattle.flash_die.specs.Flash.{Block}
use Rattle.die_mount.specs.Faults.{IsFirstBad, IsMountPlan}
use Rattle.die_mount.specs.Told.{HaveFitLabels, told_cells}
use Rattle.labelled_die.specs.declared.scanning.PartFault.{PartFault}
use Rattle.labelled_die.specs.declared.scanning.PartFault.TheVariants as faults
use Rattle.power_loss.specs.Aside.{part_of}
use Rattle.power_loss.specs.Labels.{Label, Labels, Shown, label_at}

-- the first `count` cells of a block
abbrev pub cells_shown : Shown → (block count : ℕ) → List (Option Label)
cells_shown blocks block count = map (λ page. label_at blocks (record { block = block; page = page })) (range_with_len 0 count)

-- each cell of the first `count` blocks
abbrev pub blocks_shown : Shown → (pages count : ℕ) → Shown
blocks_shown blocks pages count = map (λ block. cells_shown blocks block pages) (range_with_len 0 count)

-- each cell of a part of this shape
abbrev pub shown_by : Shape → Shown → Shown
shown_by shape blocks = blocks_shown blocks shape.pages shape.blocks

-- of no block was reported how often it was erased
abbrev pub IsUntold : List (Option ℕ) → Type 0
IsUntold told = (block : ℕ) → slice_index_or told block None ≡ None

-- a look changes nothing on a part
pub record IsSamePart {N : Type 0} (shape_of : N → Shape) (failures : N → ℕ) (blocks : N → List Block) (labels : N → Labels) (before after : N)
    : Type 0 where
  pub shape : shape_of after ≡ shape_of before
  pub well : failures after ≡ failures before
  pub blocks_are : blocks after ≡ blocks before
  pub labels_are : labels after ≡ labels before

-- the first cell that can't be of a part of this plan
pub record IsOtherLabel (logical pages : ℕ) (blocks : Shown) (block cell : ℕ) : Type 0 where
  pub bad : IsFirstBad logical (told_cells (cells_shown blocks block pages)) cell
  pub first : (b : ℕ) → b < block → HaveFitLabels logical (told_cells (cells_shown blocks b pages))

-- a fault stands, and none before it does
abbrev pub RefusesScan : DiePlan → Shape → Shown → (failures : ℕ) → PartFault → Type 0
RefusesScan plan shape blocks failures faults.BadPlan = ¬ IsMountPlan plan
RefusesScan plan shape blocks failures faults.OtherShape = IsMountPlan plan × (shape ≢ (part_of plan).shape)
RefusesScan plan shape blocks failures faults.NoMemory = IsMountPlan plan × (shape ≡ (part_of plan).shape)
RefusesScan plan shape blocks failures (faults.OtherLabel block cell) =
    IsMountPlan plan × (shape ≡ (part_of plan).shape) × IsOtherLabel plan.logical shape.pages blocks block cell
RefusesScan plan shape blocks failures faults.DeviceFault = IsMountPlan plan × (shape ≡ (part_of plan).shape) × (failures ≡ 1)

-- why a block isn't scanned
abbrev pub RefusesBlock : DiePlan → Shown → (block failures : ℕ) → PartFault → Type 0
RefusesBlock plan blocks block failures faults.BadPlan = ⊥
RefusesBlock plan blocks block failures faults.OtherShape = ⊥
RefusesBlock plan blocks block failures faults.NoMemory = ⊥
RefusesBlock plan blocks block failures (faults.OtherLabel b cell) =
    (b ≡ block) × IsFirstBad plan.logical (told_cells (cells_shown blocks block plan.shape.pages)) cell
RefusesBlock plan blocks block failures faults.DeviceFault = failures ≡ 1
