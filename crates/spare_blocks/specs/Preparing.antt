-- A part whose blocks were erased before they are used.
use Rattle.std.specs.Prelude.{◌≡◌, ℕ, ◌<◌, ◌≤◌, ◌⊎◌, false, List, length, Contains}
use Rattle.slot_types.specs.declared.refusals.Refusal.{Refusal}
use Rattle.slot_types.specs.declared.refusals.Refusal.TheVariants.{NoMemory, BadShape, DeviceFault}
use Rattle.spare_blocks.specs.declared.cells.BlockUse.TheVariants as use_as
use Rattle.spare_blocks.specs.Parts.{PartBlock, part_block, free_part_block}
use Rattle.spare_blocks.specs.Tables.{Table, use_of}

-- no block of the part failed since it is in use here
abbrev pub IsWholePart : ℕ → List PartBlock → Type 0
IsWholePart count blocks = (x : ℕ) → x < count → (part_block blocks x).failed ≡ false

-- At most `limit` blocks have numbers. Each block that is in the plan or spare is free, and none is in this list.
pub record IsPrepared (limit : ℕ) (bad : List ℕ) (t : Table) (blocks : List PartBlock) : Type 0 where
  pub few : length t.blocks ≤ limit
  pub free : (x : ℕ) → ¬ (use_of t x ≡ use_as.Bad) → part_block blocks x ≡ free_part_block
  pub known : (x : ℕ) → Contains bad x → use_of t x ≡ use_as.Bad

-- no memory, or the part had a fault
abbrev pub IsPrepareRefusal : Refusal → Type 0
IsPrepareRefusal refusal = (refusal ≡ NoMemory) ⊎ (refusal ≡ DeviceFault)

-- the same, or a shape out of its limits, or too few blocks that aren't bad
abbrev pub IsNewRefusal : Refusal → Type 0
IsNewRefusal refusal = (refusal ≡ BadShape) ⊎ IsPrepareRefusal refusal
