-- What was done to a part while spare blocks were tried.
use Rattle.std.specs.Prelude.{◌≡◌, ℕ, ◌+◌, ◌*◌, true, false, List}
use Rattle.std.specs.Prelude.{length, Option, Some, None}
use Rattle.spare_blocks.specs.declared.cells.Cell.{Cell}
use Rattle.spare_blocks.specs.declared.cells.Ended.{Ended}
use Rattle.spare_blocks.specs.declared.cells.Ended.TheVariants as ended
use Rattle.spare_blocks.specs.Parts.{PartBlock, part_block, free_part_block, serial_after}
use Rattle.spare_blocks.specs.Tables.{Table, IsSpare, use_of, spares_in}

-- a block with `cells` cells, which may be read
pub record IsSource (blocks : List PartBlock) (x cells : ℕ) : Type 0 where
  pub count : length (part_block blocks x).cells ≡ cells
  pub quiet : (part_block blocks x).erasing ≡ 0

-- each other block is as it was
abbrev pub IsOnlyAt : ℕ → List PartBlock → List PartBlock → Type 0
IsOnlyAt x before after = (y : ℕ) → ¬ (y ≡ x) → part_block after y ≡ part_block before y

-- the block holds these cells, or it failed
abbrev pub Holds : Ended → List Cell → PartBlock → Type 0
Holds ended.Done cells b = b ≡ record { cells = cells; erasing = 0; failed = false }
Holds ended.Failed cells b = b.failed ≡ true

-- A block was filled, or it failed; each other one is as it was.
pub record IsFilled (ended : Ended) (x : ℕ) (cells : List Cell) (before after : List PartBlock) : Type 0 where
  pub others : IsOnlyAt x before after
  pub here : Holds ended cells (part_block after x)

-- Spare blocks that were tried and failed are bad now. Each other block is used as before.
pub record IsUsedUp (before after : Table) : Type 0 where
  pub numbers : after.blocks ≡ before.blocks
  pub others : (x : ℕ) → ¬ (IsSpare before x) → use_of after x ≡ use_of before x
  pub spares : (x : ℕ) → IsSpare after x → IsSpare before x

-- each spare block but this one may be programmed from its first cell on
abbrev pub AreFreeBut : Table → List PartBlock → ℕ → Type 0
AreFreeBut t blocks x = (y : ℕ) → ¬ (y ≡ x) → IsSpare t y → part_block blocks y ≡ free_part_block

-- each spare block may be programmed from its first cell on
abbrev pub AreFree : Table → List PartBlock → Type 0
AreFree t blocks = (y : ℕ) → IsSpare t y → part_block blocks y ≡ free_part_block

-- what was spent, with the most that the spare blocks can still cost
abbrev pub cost_with : (pages : ℕ) → Table → (spent : ℕ) → ℕ
cost_with pages t spent = spent + 2 * pages * spares_in t

-- a spare block that is still listed as one holds these cells, and each other one is free
pub record IsTaken (x : ℕ) (cells : List Cell) (after : Table) (blocks : List PartBlock) : Type 0 where
  pub spare : IsSpare after x
  pub holds : part_block blocks x ≡ record { cells = cells; erasing = 0; failed = false }
  pub rest : AreFreeBut after blocks x

abbrev pub IsTakenOrNone : Option ℕ → List Cell → Table → List PartBlock → Type 0
IsTakenOrNone (Some x) cells after blocks = IsTaken x cells after blocks
IsTakenOrNone None cells after blocks = (x : ℕ) → ¬ (IsSpare after x)

-- Spare blocks were tried until one was filled with these cells, or none was left. Each block that wasn't spare is as it was.
pub record IsTriedOr (which : Option ℕ) (cells : List Cell) (before after : Table) (blocks_before blocks_after : List PartBlock) : Type 0 where
  pub others : (x : ℕ) → ¬ (IsSpare before x) → part_block blocks_after x ≡ part_block blocks_before x
  pub taken : IsTakenOrNone which cells after blocks_after

abbrev pub serial_after_taken : Option ℕ → Option ℕ → ℕ → ℕ
serial_after_taken (Some x) page serial = serial_after ended.Done page serial
serial_after_taken None page serial = serial
