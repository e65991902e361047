-- How often the blocks of a part were erased: by what its labels tell, and after a mount.
use Rattle.std.specs.Prelude.{◌≡◌, ℕ, ◌+◌, ◌<◌, ◌≤◌, ◌==◌, max, if◌then◌else◌, List, [], ◌∷◌, Option, Some, None, length, map, slice_index_or}
use Rattle.std.specs.List.{range_with_len}
use Rattle.slot_types.specs.declared.plans.DiePlan.{DiePlan}
use Rattle.die_checkpoint.specs.Counts.{most_erases}
use Rattle.die_log.specs.Model.Flash.{Block, Cells, block_at}
use Rattle.power_loss.specs.Aside.{most_rounds_beside}
use Rattle.die_mount.specs.declared.begin_fault.BeginFault.{BeginFault}
use Rattle.die_mount.specs.declared.begin_fault.BeginFault.TheVariants as begin
use Rattle.die_mount.specs.declared.stage.Stage.TheVariants as stage
use Rattle.die_mount.specs.Mounting.{Mounting}

-- What was reported by block, or not where it has no good label

abbrev pub one_more : Option ℕ → ℕ
one_more None = 0
one_more (Some erases) = erases + 1

-- one more than the greatest count that was reported; 0 where none was
abbrev pub above_told : List (Option ℕ) → ℕ
above_told [] = 0
above_told (erases ∷ rest) = max (one_more erases) (above_told rest)

abbrev pub told_or : ℕ → Option ℕ → ℕ
told_or other None = other
told_or other (Some erases) = erases

-- how often a block was erased, as was reported; of a block of which nothing was one erase more than of any other
abbrev pub erases_of : List (Option ℕ) → ℕ → ℕ
erases_of told block = told_or (above_told told) (slice_index_or told block None)

-- How often a mount may erase a block

-- as its first one, and in each round
abbrev pub most_mount_erases : DiePlan → ℕ
most_mount_erases plan = most_rounds_beside plan + 1

-- no block has more erases after a mount than one may have as a life begins
abbrev pub AreUnworn : DiePlan → List (Option ℕ) → Type 0
AreUnworn plan told = (block : ℕ) → block < plan.shape.blocks + 1 → erases_of told block + most_mount_erases plan ≤ most_erases

-- the first block that might have more
pub record IsFirstWorn (plan : DiePlan) (told : List (Option ℕ)) (block : ℕ) : Type 0 where
  pub stands : block < plan.shape.blocks + 1
  pub worn : most_erases < erases_of told block + most_mount_erases plan
  pub first : (earlier : ℕ) → earlier < block → erases_of told earlier + most_mount_erases plan ≤ most_erases

-- why no mount counts on from what was reported: a block may wear out, or none does and there is no memory
abbrev pub WearsOut : DiePlan → List (Option ℕ) → BeginFault → Type 0
WearsOut plan told (begin.WornOut block) = IsFirstWorn plan told block
WearsOut plan told begin.NoMemory = AreUnworn plan told
WearsOut plan told _ = ⊥

-- with the erase of the block that a mount erases first
abbrev pub counts_with : List (Option ℕ) → (erased : ℕ) → ℕ → ℕ
counts_with told erased block = if block == erased then erases_of told block + 1 else erases_of told block

-- by block of the part a count, with which no block is worn out, however often the rounds of a mount erase it
pub record AreCounts (plan : DiePlan) (counts : List ℕ) : Type 0 where
  pub long : length counts ≡ plan.shape.blocks + 1
  pub unworn : (block : ℕ) → slice_index_or counts block 0 + most_rounds_beside plan ≤ most_erases

-- the mount goes on from what was reported
pub record CountsFrom (told : List (Option ℕ)) (m : Mounting) : Type 0 where
  pub erased : ℕ
  pub stage_is : m.stage ≡ stage.First erased 0
  pub counts : m.counts ≡ map (counts_with told erased) (range_with_len 0 (m.plan.shape.blocks + 1))

-- What a block has had in all: the cells of a mount have the erases of its rounds

abbrev pub block_counted : List ℕ → Cells → ℕ → Block
block_counted counts c b = record (block_at c b) { erases = slice_index_or counts b 0 + (block_at c b).erases }

abbrev pub counted : List ℕ → Cells → Cells
counted counts c = record c { blocks = map (block_counted counts c) (range_with_len 0 (length c.blocks)) }
