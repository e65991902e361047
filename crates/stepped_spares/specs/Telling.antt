-- What a part shows once its power has come, and the table by that.
use Rattle.std.specs.Prelude.{◌≡◌, ℕ, ◌<◌, ◌≤◌, false, List, length, Option, None, Contains, slice_index_or, vec_capacity}
use Rattle.slot_types.specs.declared.plans.Shape.{Shape}
use Rattle.slot_types.specs.Shapes.{IsShape}
use Rattle.spare_blocks.specs.declared.cells.BlockUse.TheVariants as use_as
use Rattle.spare_blocks.specs.declared.cells.Mark.{Mark}
use Rattle.spare_blocks.specs.declared.powering.Group.{Group}
use Rattle.spare_blocks.specs.declared.powering.Labelled.{Labelled}
use Rattle.spare_blocks.specs.Parts.{PartBlock, part_block}
use Rattle.spare_blocks.specs.Powering.{IsSeen, IsOwn, IsCovered, IsGroup, HasNumber, mark_at, seen_at}
use Rattle.spare_blocks.specs.Tables.{Table, IsTable, use_of}
use Rattle.stepped_spares.specs.declared.scan.LabelScan.TheInside.{Inside}
use Rattle.stepped_spares.specs.declared.scan.TellFault.{TellFault}
use Rattle.stepped_spares.specs.declared.scan.TellFault.TheVariants as faults
use Rattle.stepped_spares.specs.Stepping.{Stepping, IsNextErase}

-- the shape of the blocks with numbers; how many blocks the part has; which are listed as bad; what is seen of each that was reported
pub record Told : Type 0 where
  pub shape : Shape
  pub blocks : ℕ
  pub bad : List ℕ
  pub all : List (Option Labelled)

abbrev pub told_of : Inside → Told
told_of s = record { shape = s.shape; blocks = s.blocks; bad = s.bad.items; all = s.all.items }

pub record IsSoundScan (s : Inside) : Type 0 where
  pub limits : IsShape s.shape
  pub few : length s.all.items ≤ s.blocks
  pub room : s.blocks ≤ vec_capacity s.all
  pub few_blocks : s.blocks ≤ 4294967295

-- these are the labels in the cells of a block; it has no others
abbrev pub Tells : List (Option Mark) → PartBlock → Type 0
Tells labels b = (page : ℕ) → slice_index_or labels page None ≡ mark_at b page

-- what was reported is what these blocks show, of each that isn't listed
pub record IsScanOf (blocks : List PartBlock) (s : Told) : Type 0 where
  pub listed : (x : ℕ) → Contains s.bad x → seen_at s.all x ≡ None
  pub seen : (x : ℕ) → x < length s.all → (Contains s.bad x → ⊥) → IsSeen (part_block blocks x) s.shape.pages (seen_at s.all x)

-- all blocks of a part were reported
pub record IsWholeScan (shape : Shape) (count : ℕ) (bad : List ℕ) (blocks : List PartBlock) (s : Told) : Type 0 where
  pub shape_is : s.shape ≡ shape
  pub limits : IsShape s.shape
  pub count_is : s.blocks ≡ count
  pub bad_is : s.bad ≡ bad
  pub whole : length s.all ≡ s.blocks
  pub scan : IsScanOf blocks s

abbrev pub HasTellFault : Told → (cells : ℕ) → TellFault → Type 0
HasTellFault s cells faults.NoMoreBlocks = length s.all ≡ s.blocks
HasTellFault s cells faults.TooManyCells = s.shape.pages < cells

-- Blocks have numbers by what was seen of them: those that need one, and no two with the same first label.
pub record AreByLabels (bad : List ℕ) (all : List (Option Labelled)) (t : Table) : Type 0 where
  pub known : (x : ℕ) → Contains bad x → use_of t x ≡ use_as.Bad
  pub own : (x : ℕ) → x < length t.uses → (Contains bad x → ⊥) → IsOwn all x → HasNumber (use_of t x)
  pub once : (x : ℕ) → HasNumber (use_of t x) → IsCovered all x → ⊥
  pub groups : (x : ℕ) → x < length t.uses → ((g : Group) × IsGroup all x g)

-- so many numbers by what was reported, and each spare block is erased first
pub record IsPoweredUp (told : Told) (s : Stepping) : Type 0 where
  pub pages : s.pages ≡ told.shape.pages
  pub table : IsTable s.table
  pub count : length s.table.blocks ≡ told.shape.blocks
  pub uses : length s.table.uses ≡ told.blocks
  pub numbered : AreByLabels told.bad told.all s.table
  pub next : IsNextErase false s.table 0 s.stage
