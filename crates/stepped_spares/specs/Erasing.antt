-- The erases that come first, carried out on a part.
use Rattle.std.specs.Prelude.{◌≡◌, ℕ, Bool, true, false, List, length}
use Rattle.spare_blocks.specs.declared.cells.BlockUse.TheVariants as use_as
use Rattle.spare_blocks.specs.Parts.{PartBlock, part_block, free_part_block}
use Rattle.spare_blocks.specs.Tables.{Table, IsSpare, use_of}
use Rattle.spare_blocks.specs.Trying.{IsUsedUp}
use Rattle.stepped_spares.specs.declared.moves.Stage.{Stage}
use Rattle.stepped_spares.specs.declared.moves.Stage.TheVariants as stage
use Rattle.stepped_spares.specs.Stepping.{Stepping, IsNextErase, must_erase}

-- no block was erased yet, and none that has to be has failed
pub record BeginsErasing (all : Bool) (s : Stepping) (blocks : List PartBlock) : Type 0 where
  pub next : IsNextErase all s.table 0 s.stage
  pub whole : (x : ℕ) → must_erase all (use_of s.table x) ≡ true → (part_block blocks x).failed ≡ false

-- Each block that had to be erased is free, but for those that failed, which are bad. Where spare blocks alone had to be, each other
-- block is as it was.
pub record AreErased (all : Bool) (first t : Table) (before after : List PartBlock) : Type 0 where
  pub count : length t.blocks ≡ length first.blocks
  pub uses : length t.uses ≡ length first.uses
  pub bad : (x : ℕ) → use_of first x ≡ use_as.Bad → use_of t x ≡ use_as.Bad
  pub free : (x : ℕ) → must_erase all (use_of t x) ≡ true → part_block after x ≡ free_part_block
  pub used : all ≡ false → IsUsedUp first t
  pub others : all ≡ false → (x : ℕ) → ¬ (IsSpare first x) → part_block after x ≡ part_block before x

-- all blocks were erased, or too few are left, or the part had a fault
abbrev pub HasErased : Stage → (all : Bool) → (first t : Table) → (before after : List PartBlock) → (faulted : Bool) → Type 0
HasErased stage.Working all first t before after faulted = AreErased all first t before after × (faulted ≡ false)
HasErased stage.WornOut all first t before after faulted = faulted ≡ false
HasErased stage.Faulted all first t before after faulted = faulted ≡ true
HasErased (stage.Erasing x every) all first t before after faulted = ⊥
HasErased (stage.Filling number spare cells cell) all first t before after faulted = ⊥
