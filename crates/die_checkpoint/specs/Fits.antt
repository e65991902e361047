-- When a checkpoint fits a plan.
use Rattle.std.specs.Prelude.{◌≡◌, ℕ, ◌+◌, ◌-◌, ◌*◌, ◌<◌, ◌≤◌, List, length, sum, sum_by, slice_index, Some}
use Rattle.slot_types.specs.declared.pages.Place.{Place}
use Rattle.slot_types.specs.declared.plans.DiePlan.{DiePlan}
use Rattle.slot_types.specs.Places.{place_of}
use Rattle.plan_rules.specs.Bound.{MeetsBound}
use Rattle.page_map.specs.Placing.{HaveOwnCells}
use Rattle.die_checkpoint.specs.declared.checkpoint.BlockCounts.{BlockCounts}
use Rattle.die_checkpoint.specs.declared.checkpoint.Checkpoint.{Checkpoint}
use Rattle.die_checkpoint.specs.Counts.{counts_at, free_in, most_erases}

-- as many blocks, pages and tasks as the plan has
pub record IsOfShape (plan : DiePlan) (c : Checkpoint) : Type 0 where
  pub blocks : length c.blocks ≡ plan.shape.blocks
  pub pages : length c.places ≡ plan.logical
  pub tasks : length c.balances ≡ length plan.caps

-- and the plan may be used
pub record IsOfPlan (plan : DiePlan) (c : Checkpoint) : Type 0 where
  pub shape : IsOfShape plan c
  pub bound : MeetsBound plan

-- no more pages are programmed in a block than it has
abbrev pub AreWithin : ℕ → List BlockCounts → Type 0
AreWithin pages blocks = (block : ℕ) → (counts_at blocks block).filled ≤ pages

-- some pages of the block are programmed, and some are free
abbrev pub IsOpen : ℕ → List BlockCounts → ℕ → Type 0
IsOpen pages blocks block = (0 < (counts_at blocks block).filled) × ((counts_at blocks block).filled < pages)

-- at most one block is open
abbrev pub HasOneOpen : ℕ → List BlockCounts → Type 0
HasOneOpen pages blocks = (one other : ℕ) → IsOpen pages blocks one → IsOpen pages blocks other → one ≡ other

-- each block may be erased in each slot of a life
abbrev pub AreUnworn : List BlockCounts → Type 0
AreUnworn blocks = (block : ℕ) → (counts_at blocks block).erases ≤ most_erases

pub record HasBlocks (plan : DiePlan) (c : Checkpoint) : Type 0 where
  pub plan_is : IsOfPlan plan c
  pub within : AreWithin plan.shape.pages c.blocks
  pub one_open : HasOneOpen plan.shape.pages c.blocks
  pub unworn : AreUnworn c.blocks

-- a logical page lies in a programmed cell, or nowhere
abbrev pub ArePlaced : Checkpoint → Type 0
ArePlaced c = (page : ℕ) (place : Place) → place_of c.places page ≡ Some place → place.page < (counts_at c.blocks place.block).filled

-- no task has more pages than its cap
abbrev pub AreCapped : DiePlan → Checkpoint → Type 0
AreCapped plan c = (task : ℕ) → slice_index c.balances task ≤ slice_index plan.caps task

-- the pages in all accounts, where no task holds any for a job and each reserve is whole
abbrev pub in_accounts : DiePlan → Checkpoint → ℕ
in_accounts plan c = c.spare + sum c.balances + length plan.caps * (plan.shape.pages - plan.alpha)

-- the free pages
abbrev pub free_pages : DiePlan → Checkpoint → ℕ
free_pages plan c = sum_by (free_in plan.shape.pages) c.blocks

-- all of a checkpoint, but that no two pages lie in one cell
pub record FitsButShared (plan : DiePlan) (c : Checkpoint) : Type 0 where
  pub blocks : HasBlocks plan c
  pub placed : ArePlaced c
  pub capped : AreCapped plan c
  pub sums : in_accounts plan c ≡ free_pages plan c

-- A die may go on from here. The checkpoint is of the plan, its blocks can be those of a die, each page lies in a
-- programmed cell or nowhere, the accounts share out exactly the free pages, and no two pages lie in one cell.
pub record Fits (plan : DiePlan) (c : Checkpoint) : Type 0 where
  pub all_else : FitsButShared plan c
  pub apart : HaveOwnCells c.places
