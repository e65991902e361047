-- The running collections of a volume.
use Rattle.std.specs.Prelude.{◌≡◌, ℕ, ◌-◌, ◌<◌, ◌≤◌, List, length, count_by, Option, Some, None, slice_index, slice_index_or}
use Rattle.slot_types.specs.declared.pages.Place.{Place}
use Rattle.slot_types.specs.Places.{place_of, is_in}
use Rattle.plan_rules.specs.Accounts.{Accounts}
use Rattle.flash_die.specs.Flash.{Block, block_at, cell_at}
use Rattle.flash_volume.specs.declared.collection.Collection.{Collection}
use Rattle.flash_volume.specs.declared.collection.Copied.{Copied}
use Rattle.flash_volume.specs.Cells.{filled_of}

-- the collection that a task runs
abbrev pub running_of : List (Option Collection) → ℕ → Option Collection
running_of running task = slice_index_or running task None

abbrev pub with_buffer : Collection → Option Copied → Collection
with_buffer collection buffer = record collection { buffer = buffer }

-- a page as it was read
abbrev pub copied_of : List Block → ℕ → Place → Copied
copied_of blocks page source = record { page = page; source = source; bytes = cell_at blocks source }

-- what is true of a task's running collection: its victim is closed, no more pages lie in it than are in reserve, and
-- its buffer holds a page of the victim as it stands there
pub record RunWell (accounts : Accounts) (pages : ℕ) (blocks : List Block) (places : List (Option Place)) (task : ℕ) (c : Collection) : Type
    0 where
  pub in_range : c.victim < length blocks
  pub closed : filled_of (block_at blocks c.victim) ≡ pages
  pub lent : count_by (is_in c.victim) places ≤ slice_index accounts.reserves task
  pub source : (k : Copied) → c.buffer ≡ Some k → k.source.block ≡ c.victim
  pub home : (k : Copied) (place : Place) → c.buffer ≡ Some k → place_of places k.page ≡ Some place → place.block ≡ c.victim → place
      ≡ k.source
  pub bytes : (k : Copied) → c.buffer ≡ Some k → place_of places k.page ≡ Some k.source → k.bytes ≡ cell_at blocks k.source

-- of all of them: no two have one victim, and who runs none has its whole reserve
pub record RunsWell (accounts : Accounts) (pages : ℕ) (blocks : List Block) (places : List (Option Place))
    (running : List (Option Collection)) : Type 0 where
  pub len : length running ≡ length accounts.plan.caps
  pub each : (task : ℕ) (c : Collection) → running_of running task ≡ Some c → RunWell accounts pages blocks places task c
  pub apart : (task other : ℕ) (c d : Collection) → running_of running task ≡ Some c → running_of running other ≡ Some d → c.victim
      ≡ d.victim → task ≡ other
  pub idle : (task : ℕ) → task < length accounts.plan.caps → running_of running task ≡ None → slice_index accounts.reserves task
      ≡ pages - accounts.plan.alpha
