-- Which block of the part has which number of the plan, and what each of the others is for.
use Rattle.std.specs.Prelude.{◌≡◌, ℕ, ◌<◌, ◌≤◌, Bool, true, false, List, [], ◌∷◌, ◌++◌, length, count_by, slice_index, slice_index_or, slice_set}
use Rattle.spare_blocks.specs.declared.cells.BlockUse.{BlockUse}
use Rattle.spare_blocks.specs.declared.cells.BlockUse.TheVariants as use_as

-- by number of the plan the part's block, and by block of the part what it is for
pub record Table : Type 0 where
  pub blocks : List ℕ
  pub uses : List BlockUse

-- a block that the part doesn't have is used for nothing
abbrev pub use_of : Table → ℕ → BlockUse
use_of t x = slice_index_or t.uses x use_as.Bad

abbrev pub on_part : Table → ℕ → ℕ
on_part t b = slice_index t.blocks b

abbrev pub is_spare : BlockUse → Bool
is_spare (use_as.InPlan b) = false
is_spare use_as.Spare = true
is_spare use_as.Bad = false

-- how many spare blocks there are
abbrev pub spares_in : Table → ℕ
spares_in t = count_by is_spare t.uses

abbrev pub IsSpare : Table → ℕ → Type 0
IsSpare t x = use_of t x ≡ use_as.Spare

-- the two lists say the same
pub record IsTable (t : Table) : Type 0 where
  pub numbered : (b : ℕ) → b < length t.blocks → use_of t (on_part t b) ≡ use_as.InPlan b
  pub listed : (x b : ℕ) → use_of t x ≡ use_as.InPlan b → (b < length t.blocks) × (on_part t b ≡ x)
  pub fewer : length t.blocks ≤ length t.uses
  pub few : length t.uses ≤ 4294967295

abbrev pub empty_table : Table
empty_table = record { blocks = []; uses = [] }

-- the part's next block gets the plan's next number
abbrev pub with_plan_block : Table → Table
with_plan_block t = record {
  blocks = t.blocks ++ length t.uses ∷ [];
  uses = t.uses ++ use_as.InPlan (length t.blocks) ∷ [];
}

-- the part's next block gets no number
abbrev pub with_other_block : BlockUse → Table → Table
with_other_block becomes t = record t { uses = t.uses ++ becomes ∷ [] }

-- a spare block failed
abbrev pub without_spare : ℕ → Table → Table
without_spare spare t = record t { uses = slice_set t.uses spare use_as.Bad }

-- a spare block takes the number of one that failed
abbrev pub replaced : ℕ → ℕ → Table → Table
replaced b spare t = record {
  blocks = slice_set t.blocks b spare;
  uses = slice_set (slice_set t.uses (on_part t b) use_as.Bad) spare (use_as.InPlan b);
}
