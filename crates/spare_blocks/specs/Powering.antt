-- A device once the power of its part has come: which block has which number is read off the labels.
use Rattle.std.specs.Prelude.{◌≡◌, ◌⊎◌, ℕ, ◌<◌, ◌≤◌, Bool, true, false, List, ◌∷◌, ◌++◌, [], length, replicate, Option, Some, None, Contains, slice_index_or}
use Rattle.slot_types.specs.declared.plans.Shape.{Shape}
use Rattle.slot_types.specs.Shapes.{IsShape}
use Rattle.spare_blocks.specs.declared.blocks.Health.TheVariants as health
use Rattle.spare_blocks.specs.declared.cells.BlockUse.{BlockUse}
use Rattle.spare_blocks.specs.declared.cells.BlockUse.TheVariants as use_as
use Rattle.spare_blocks.specs.declared.cells.Cell.{Cell}
use Rattle.spare_blocks.specs.declared.cells.Mark.{Mark}
use Rattle.spare_blocks.specs.declared.powering.Labelled.{Labelled}
use Rattle.spare_blocks.specs.declared.powering.Farthest.{Farthest}
use Rattle.spare_blocks.specs.declared.powering.Group.{Group}
use Rattle.spare_blocks.specs.declared.powering.Group.TheVariants as groups
use Rattle.spare_blocks.specs.Parts.{PartBlock, part_block, free_part_block, blank_cell}
use Rattle.spare_blocks.specs.Tables.{Table, IsTable, IsSpare, use_of, on_part}
use Rattle.spare_blocks.specs.Trying.{IsOnlyAt}
use Rattle.spare_blocks.specs.Spares.{Spared, numbered}

-- each block counts as closed, with all its cells; none is in erase, and none is known to fail
pub record IsPoweredPart (shape : Shape) (blocks : List PartBlock) : Type 0 where
  pub count : length blocks ≡ shape.blocks
  pub closed : (x : ℕ) → x < shape.blocks → length (part_block blocks x).cells ≡ shape.pages
  pub quiet : (x : ℕ) → (part_block blocks x).erasing ≡ 0
  pub whole : (x : ℕ) → x < shape.blocks → (part_block blocks x).failed ≡ false

-- no block has more cells than so many pages
abbrev pub AreWithin : (pages : ℕ) → List PartBlock → Type 0
AreWithin pages blocks = (x : ℕ) → length (part_block blocks x).cells ≤ pages

-- The labels of a block

abbrev pub mark_in : Option Cell → Option Mark
mark_in None = None
mark_in (Some cell) = cell.mark

-- the label of a cell, if it has one
abbrev pub mark_at : PartBlock → ℕ → Option Mark
mark_at b page = (slice_index_or b.cells page blank_cell).mark

abbrev pub HasNoMark : PartBlock → Type 0
HasNoMark b = (page : ℕ) → mark_at b page ≡ None

-- the first label of a block is this one, in this cell
pub record StartsWith (b : PartBlock) (first : ℕ) (mark : Mark) : Type 0 where
  pub is : mark_at b first ≡ Some mark
  pub before : (page : ℕ) → page < first → mark_at b page ≡ None

-- no cell after this one has a label
abbrev pub EndsBy : PartBlock → ℕ → Type 0
EndsBy b last = (page : ℕ) → last < page → mark_at b page ≡ None

-- Both have the same first label, and the one has labels as far as the other.
pub record GoesAsFar (own other : PartBlock) : Type 0 where
  pub first : ℕ
  pub mark : Mark
  pub own_first : StartsWith own first mark
  pub other_first : StartsWith other first mark
  pub far : (last : ℕ) → EndsBy own last → EndsBy other last

-- What is seen of blocks

-- of so many cells of a block: the first label, and the last cell that has one
pub record HasLabels (b : PartBlock) (count : ℕ) (s : Labelled) : Type 0 where
  pub starts : StartsWith b s.first s.mark
  pub last : ((m : Mark) × (mark_at b s.last ≡ Some m))
  pub none : (page : ℕ) → s.last < page → page < count → mark_at b page ≡ None

abbrev pub IsSeen : PartBlock → (count : ℕ) → Option Labelled → Type 0
IsSeen b count None = (page : ℕ) → page < count → mark_at b page ≡ None
IsSeen b count (Some s) = HasLabels b count s

-- once the next cell was looked at, too
abbrev pub with_cell : (page : ℕ) → Option Mark → Option Labelled → Option Labelled
with_cell page None seen = seen
with_cell page (Some mark) None = Some (record { first = page; mark = mark; last = page })
with_cell page (Some mark) (Some s) = Some (record s { last = page })

abbrev pub seen_at : List (Option Labelled) → ℕ → Option Labelled
seen_at all x = slice_index_or all x None

-- what is seen of each block that isn't listed as bad
pub record AreSeen (shape : Shape) (blocks : List PartBlock) (bad : List ℕ) (all : List (Option Labelled)) : Type 0 where
  pub count : length all ≡ shape.blocks
  pub listed : (x : ℕ) → Contains bad x → seen_at all x ≡ None
  pub seen : (x : ℕ) → x < shape.blocks → (Contains bad x → ⊥) → IsSeen (part_block blocks x) shape.pages (seen_at all x)

abbrev pub SharesFirst : Labelled → Labelled → Type 0
SharesFirst own other = (own.first ≡ other.first) × (own.mark ≡ other.mark)

-- labels that go so far in this block, before those that go so far in that one
abbrev pub IsFarther : (last block far best : ℕ) → Type 0
IsFarther last block far best = (far < last) ⊎ ((last ≡ far) × (block < best))

-- the farthest block so far, once this one was looked at, too
abbrev pub IsFarthest : (seen : Option Labelled) (block : ℕ) (s : Labelled) (best after : Farthest) → Type 0
IsFarthest seen block s best after =
    ((own : Labelled) × (seen ≡ Some own) × SharesFirst own s × IsFarther own.last block best.last best.block × (after ≡ record { block = block; last = own.last }))
    ⊎ (((own : Labelled) → seen ≡ Some own → SharesFirst own s → IsFarther own.last block best.last best.block → ⊥) × (after ≡ best))

-- of the blocks that have the same first label this is the one in which labels go farthest, and of several the first one
pub record IsHolder (all : List (Option Labelled)) (s : Labelled) (x : ℕ) : Type 0 where
  pub own : Labelled
  pub is : seen_at all x ≡ Some own
  pub same : SharesFirst own s
  pub most : (y : ℕ) (other : Labelled) → seen_at all y ≡ Some other → SharesFirst other s → (other.last < own.last) ⊎ ((other.last ≡ own.last) × (x ≤ y))

pub record IsOwn (all : List (Option Labelled)) (x : ℕ) : Type 0 where
  pub labelled : Labelled
  pub is : seen_at all x ≡ Some labelled
  pub holder : IsHolder all labelled x

pub record IsCovered (all : List (Option Labelled)) (x : ℕ) : Type 0 where
  pub labelled : Labelled
  pub is : seen_at all x ≡ Some labelled
  pub holder : ℕ
  pub other : holder ≡ x → ⊥
  pub holds : IsHolder all labelled holder

abbrev pub IsGroup : List (Option Labelled) → ℕ → Group → Type 0
IsGroup all x groups.Own = IsOwn all x
IsGroup all x groups.Covered = IsCovered all x
IsGroup all x groups.Blank = seen_at all x ≡ None

-- The table

abbrev pub HasNumber : BlockUse → Type 0
HasNumber becomes = ((b : ℕ) × (becomes ≡ use_as.InPlan b))

-- the part's next block was put into the table: with a number it is as it was; spare, it is free; the others are as they were
pub record IsNumbered (listed : Bool) (group : Group) (t u : Table) (before after : List PartBlock) : Type 0 where
  pub becomes : BlockUse
  pub pushed : u.uses ≡ t.uses ++ becomes ∷ []
  pub others : IsOnlyAt (length t.uses) before after
  pub number : HasNumber becomes → part_block after (length t.uses) ≡ part_block before (length t.uses)
  pub spare : becomes ≡ use_as.Spare → part_block after (length t.uses) ≡ free_part_block
  pub bad : listed ≡ true → becomes ≡ use_as.Bad
  pub own : listed ≡ false → group ≡ groups.Own → HasNumber becomes
  pub once : HasNumber becomes → group ≡ groups.Covered → ⊥

-- so were the blocks of this table
pub record AreNumbered (bad : List ℕ) (all : List (Option Labelled)) (t : Table) (before after : List PartBlock) : Type 0 where
  pub number : (x : ℕ) → HasNumber (use_of t x) → part_block after x ≡ part_block before x
  pub spare : (x : ℕ) → IsSpare t x → part_block after x ≡ free_part_block
  pub known : (x : ℕ) → Contains bad x → use_of t x ≡ use_as.Bad
  pub own : (x : ℕ) → x < length t.uses → (Contains bad x → ⊥) → IsOwn all x → HasNumber (use_of t x)
  pub once : (x : ℕ) → HasNumber (use_of t x) → IsCovered all x → ⊥
  pub groups : (x : ℕ) → x < length t.uses → ((g : Group) × IsGroup all x g)

-- Each block that isn't listed as bad and has no number has no label, or a block with a number has the same first label and
-- goes as far.
abbrev pub IsNeedless : (bad : List ℕ) → Table → List PartBlock → ℕ → Type 0
IsNeedless bad t before x =
    Contains bad x ⊎ (HasNoMark (part_block before x)
    ⊎ ((b : ℕ) × (b < length t.blocks) × GoesAsFar (part_block before (on_part t b)) (part_block before x)))

-- so many blocks have numbers, and are as they were, and no two have the same first label; each spare block is free
pub record IsPoweredTable (shape : Shape) (bad : List ℕ) (t : Table) (part : Shape) (before after : List PartBlock) : Type 0 where
  pub limits : IsShape shape
  pub table : IsTable t
  pub count : length t.blocks ≡ shape.blocks
  pub number : (b : ℕ) → b < shape.blocks → part_block after (on_part t b) ≡ part_block before (on_part t b)
  pub within : (b : ℕ) → b < shape.blocks → on_part t b < part.blocks
  pub once : (b c first : ℕ) (mark : Mark) → b < shape.blocks → c < shape.blocks → StartsWith (part_block before (on_part t b)) first mark
      → StartsWith (part_block before (on_part t c)) first mark → b ≡ c
  pub spare : (x : ℕ) → IsSpare t x → part_block after x ≡ free_part_block
  pub known : (x : ℕ) → Contains bad x → use_of t x ≡ use_as.Bad
  pub rest : (x : ℕ) → x < part.blocks → (HasNumber (use_of t x) → ⊥) → IsNeedless bad t before x

-- Nothing was done on the device's blocks yet, of which each counts as closed, with the labels that it had; each other block that
-- isn't listed as bad is needless.
pub record IsPoweredSpared {N : Type 0} (blocks : N → List PartBlock) (shape part : Shape) (before : List PartBlock) (known_bad : List ℕ) (d : Spared N)
    : Type 0 where
  pub shape_is : d.shape ≡ shape
  pub works : d.health ≡ health.Working
  pub well : d.failures ≡ 0
  pub erases : d.erases ≡ replicate shape.blocks 0
  pub table : IsPoweredTable shape known_bad d.table part before (blocks d.part)
