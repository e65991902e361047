-- A part on which a mount is carried out.
use Rattle.std.specs.Prelude.{◌≡◌, ℕ, ◌+◌, ◌<◌, ◌==◌, if◌then◌else◌, Bool, true, false, List, map, replicate, slice_index_or, slice_set}
use Rattle.slot_types.specs.declared.pages.PageData.{PageData}
use Rattle.slot_types.specs.declared.plans.DiePlan.{DiePlan}
use Rattle.slot_types.specs.declared.plans.Shape.{Shape}
use Rattle.flash_die.specs.Flash as device
use Rattle.die_log.specs.Model.Flash.{Block, Cells, block_at, free_block}
use Rattle.die_mount.specs.Mounting.{Mounting}
use Rattle.die_mount.specs.PartState.{closed_block}
use Rattle.die_mount.specs.declared.stage.Stage.{Stage}
use Rattle.die_mount.specs.declared.stage.Stage.TheVariants as stage
use Rattle.power_loss.specs.Aside.{part_of}
use Rattle.power_loss.specs.Labels.{Labels}
use Rattle.labelled_nand.specs.PoweredUp.{AreBorne, counts_of}

-- the part, the mount, the block that it erases first, what was read last, and whether a call of the part has failed
pub record OnPart (N : Type 0) : Type 0 where
  pub part : N
  pub mount : Mounting
  pub erased : ℕ
  pub held : PageData
  pub failed : Bool

abbrev pub on_part : {N : Type 0} → N → Mounting → (erased : ℕ) → PageData → Bool → OnPart N
on_part part mount erased held failed = record { part = part; mount = mount; erased = erased; held = held; failed = failed }

-- The cells of the part, as the device counts them

-- a block with one erase more
abbrev pub erased_more : Block → Block
erased_more s = record s { erases = s.erases + 1 }

-- the erase of the first block is one that the cells of a mount don't count
abbrev pub once_erased : (erased : ℕ) → Cells → Cells
once_erased erased c = record c { blocks = slice_set c.blocks erased (erased_more (block_at c erased)) }

-- each block is closed, except for this one, which is like that
abbrev pub closed_beside : DiePlan → ℕ → Block → List Block
closed_beside plan block own = slice_set (replicate (plan.shape.blocks + 1) (closed_block plan.shape.pages)) block own

-- the first block in its erase
abbrev pub in_erase : DiePlan → (slots : ℕ) → Block
in_erase plan slots = record (closed_block plan.shape.pages) { erasing = slots }

-- the block that is erased first has had `slots` slots of its erase; after that the blocks are the mount's
abbrev pub StandsAt : (plan : DiePlan) → (erased : ℕ) → Cells → List device.Block → Stage → Type 0
StandsAt plan erased c blocks (stage.First block slots) = (block ≡ erased) × (c.blocks ≡ closed_beside plan erased free_block)
    × (map counts_of blocks ≡ closed_beside plan erased (in_erase plan slots))
StandsAt plan erased c blocks (stage.Read page from) = map counts_of blocks ≡ (once_erased erased c).blocks
StandsAt plan erased c blocks (stage.Program page from to) = map counts_of blocks ≡ (once_erased erased c).blocks
StandsAt plan erased c blocks (stage.Erase block slots) = map counts_of blocks ≡ (once_erased erased c).blocks
StandsAt plan erased c blocks stage.Done = map counts_of blocks ≡ (once_erased erased c).blocks

-- the mount counts the erase of its first block, and knows of no other one before its rounds
abbrev pub CountsOne : (erased : ℕ) → Mounting → Type 0
CountsOne erased m = (b : ℕ) → slice_index_or m.counts b 0 ≡ (if b == erased then 1 else 0)

-- so it is as the mount begins
abbrev pub BeginsToCount : Mounting → Type 0
BeginsToCount m = (erased : ℕ) → m.stage ≡ stage.First erased 0 → CountsOne erased m

-- the part has the mount's blocks, and each label is that of its cell
pub record IsOnPart {N : Type 0} (shape_of : N → Shape) (blocks : N → List device.Block) (labels : N → Labels) (failures : N → ℕ) (v : OnPart N)
    : Type 0 where
  pub shape : shape_of v.part ≡ (part_of v.mount.plan).shape
  pub first : v.erased < v.mount.plan.shape.blocks + 1
  pub well : failures v.part ≡ 0
  pub borne : AreBorne (blocks v.part) (labels v.part).blocks
  pub at : StandsAt v.mount.plan v.erased v.mount.cells (blocks v.part) v.mount.stage
  pub one : CountsOne v.erased v.mount

-- unless a call has failed, which it never does on a device that never fails; then it was the only one
pub record IsSoundOnPart {N : Type 0} (never_fails : Bool) (shape_of : N → Shape) (blocks : N → List device.Block) (labels : N → Labels)
    (failures : N → ℕ) (v : OnPart N) : Type 0 where
  pub on : v.failed ≡ false → IsOnPart shape_of blocks labels failures v
  pub faulted : v.failed ≡ true → failures v.part ≡ 1
  pub never : never_fails ≡ true → v.failed ≡ false
