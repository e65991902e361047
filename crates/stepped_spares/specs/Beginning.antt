-- A table of a part on which nothing was done yet.
use Rattle.std.specs.Prelude.{◌≡◌, ◌⊎◌, ℕ, ◌<◌, ◌≤◌, Bool, true, false, List, [], ◌∷◌, ◌++◌, length, Contains}
use Rattle.slot_types.specs.declared.plans.Shape.{Shape}
use Rattle.slot_types.specs.declared.refusals.Refusal.{Refusal}
use Rattle.slot_types.specs.declared.refusals.Refusal.TheVariants.{NoMemory, BadShape}
use Rattle.slot_types.specs.Shapes.{IsShape}
use Rattle.spare_blocks.specs.declared.cells.BlockUse.{BlockUse}
use Rattle.spare_blocks.specs.declared.cells.BlockUse.TheVariants as use_as
use Rattle.spare_blocks.specs.Tables.{Table, IsTable, use_of}
use Rattle.stepped_spares.specs.Stepping.{Stepping, IsNextErase}

-- a block more: bad where it is listed, and else of use; at most so many have numbers
pub record IsAdded (listed : Bool) (limit : ℕ) (before after : Table) : Type 0 where
  pub becomes : BlockUse
  pub pushed : after.uses ≡ before.uses ++ becomes ∷ []
  pub bad : listed ≡ true → becomes ≡ use_as.Bad
  pub good : listed ≡ false → ¬ (becomes ≡ use_as.Bad)
  pub few : length before.blocks ≤ limit → length after.blocks ≤ limit

-- so many blocks of the part, of which those are bad that are listed
pub record AreAdded (limit : ℕ) (bad : List ℕ) (t : Table) (all : ℕ) : Type 0 where
  pub uses : length t.uses ≡ all
  pub few : length t.blocks ≤ limit
  pub known : (x : ℕ) → Contains bad x → use_of t x ≡ use_as.Bad
  pub good : (x : ℕ) → x < all → ¬ (Contains bad x) → ¬ (use_of t x ≡ use_as.Bad)

-- Each number has a block, those are bad that are listed, and each other block is erased first.
pub record IsBegun (shape : Shape) (blocks : ℕ) (bad : List ℕ) (s : Stepping) : Type 0 where
  pub limits : IsShape shape
  pub pages : s.pages ≡ shape.pages
  pub table : IsTable s.table
  pub count : length s.table.blocks ≡ shape.blocks
  pub uses : length s.table.uses ≡ blocks
  pub known : (x : ℕ) → Contains bad x → use_of s.table x ≡ use_as.Bad
  pub good : (x : ℕ) → x < blocks → ¬ (Contains bad x) → ¬ (use_of s.table x ≡ use_as.Bad)
  pub next : IsNextErase true s.table 0 s.stage

abbrev pub IsBeginRefusal : Refusal → Type 0
IsBeginRefusal refusal = (refusal ≡ BadShape) ⊎ (refusal ≡ NoMemory)
