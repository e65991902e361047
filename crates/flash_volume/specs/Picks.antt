-- Which blocks may be collected.
use Rattle.std.specs.Prelude.{◌≡◌, ◌≢◌, ℕ, ◌<◌, ◌≤◌, List, length, count_by, Option, Some, None}
use Rattle.slot_types.specs.declared.pages.Place.{Place}
use Rattle.slot_types.specs.Places.{is_in}
use Rattle.victim_pick.specs.Candidates.{count_of}
use Rattle.flash_die.specs.Flash.{Block, block_at}
use Rattle.flash_volume.specs.declared.collection.Collection.{Collection}
use Rattle.flash_volume.specs.Cells.{filled_of}
use Rattle.flash_volume.specs.Running.{running_of}

-- a closed block that no collection works on
pub record IsCandidate (pages : ℕ) (blocks : List Block) (running : List (Option Collection)) (block : ℕ) : Type 0 where
  pub in_range : block < length blocks
  pub closed : filled_of (block_at blocks block) ≡ pages
  pub alone : (task : ℕ) (c : Collection) → running_of running task ≡ Some c → c.victim ≢ block

-- of these the one in which the fewest pages lie, of equal ones the one with the fewest erases, and of these the first
pub record IsVictim (pages : ℕ) (blocks : List Block) (places : List (Option Place)) (running : List (Option Collection)) (block : ℕ) : Type
    0 where
  pub candidate : IsCandidate pages blocks running block
  pub fewest : (other : ℕ) → IsCandidate pages blocks running other → count_by (is_in block) places ≤ count_by (is_in other) places
  pub least_worn : (other : ℕ) → IsCandidate pages blocks running other → count_by (is_in other) places ≡ count_by (is_in block) places
      → (block_at blocks block).erases ≤ (block_at blocks other).erases
  pub first : (other : ℕ) → IsCandidate pages blocks running other → count_by (is_in other) places ≡ count_by (is_in block) places
      → (block_at blocks other).erases ≡ (block_at blocks block).erases → block ≤ other

-- a collection works on the block
pub record IsCollected (running : List (Option Collection)) (block : ℕ) : Type 0 where
  pub task : ℕ
  pub collection : Collection
  pub runs : running_of running task ≡ Some collection
  pub victim : collection.victim ≡ block

-- the candidates are the closed blocks that no collection works on
pub record PicksWell (pages : ℕ) (blocks : List Block) (counts : List (Option ℕ)) (running : List (Option Collection)) : Type 0 where
  pub taken : (task : ℕ) (c : Collection) → running_of running task ≡ Some c → count_of counts c.victim ≡ None
  pub closed : (block : ℕ) → block < length blocks → filled_of (block_at blocks block) ≡ pages → count_of counts block ≡ None
      → IsCollected running block
