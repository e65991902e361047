-- A volume that goes on over a device as it was left.
use Rattle.std.specs.Prelude.{◌≡◌, ℕ, ◌<◌, false, List, length, map, position, count_by, replicate, Option, Some, None, IsSome}
use Rattle.slot_types.specs.declared.plans.DiePlan.{DiePlan}
use Rattle.slot_types.specs.declared.plans.Shape.{Shape}
use Rattle.slot_types.specs.declared.pages.Place.{Place}
use Rattle.slot_types.specs.Places.{is_in}
use Rattle.page_ledger.specs.Quiet.{quiet_accounts}
use Rattle.victim_pick.specs.Candidates.{Candidates, count_of, erases_of}
use Rattle.die_checkpoint.specs.declared.checkpoint.BlockCounts.{BlockCounts}
use Rattle.die_checkpoint.specs.declared.checkpoint.Checkpoint.{Checkpoint}
use Rattle.die_checkpoint.specs.Counts.{counts_at}
use Rattle.flash_die.specs.Flash.{Block, block_at}
use Rattle.flash_volume.specs.declared.tables.Tables.{Tables}
use Rattle.flash_volume.specs.Cells.{filled_of, is_open_with, contents}
use Rattle.flash_volume.specs.State.{State}

-- what a checkpoint says of a block
abbrev pub counts_of : Block → BlockCounts
counts_of block = record { filled = filled_of block; erases = block.erases }

-- no block is in erase
abbrev pub IsIdle : List Block → Type 0
IsIdle blocks = (block : ℕ) → (block_at blocks block).erasing ≡ 0

-- A device is as a checkpoint says: each block has as many programmed pages and was erased as often, no block is
-- in erase, and no call has failed. What its pages hold may be anything.
pub record IsAsLeft (c : Checkpoint) (blocks : List Block) (failures : ℕ) : Type 0 where
  pub counts : map counts_of blocks ≡ c.blocks
  pub idle : IsIdle blocks
  pub well : failures ≡ 0

-- Each page lies where the checkpoint has it and holds what its cell holds; one that lies nowhere is blank. The
-- accounts are those of a quiet moment, and no collection runs.
abbrev pub resumed_volume : {N : Type 0} → (N → List Block) → DiePlan → Checkpoint → N → State N
resumed_volume blocks plan c device = record {
  failed = false;
  pages = contents (blocks device) c.places;
  accounts = quiet_accounts plan c.spare c.balances;
  device = device;
  places = c.places;
  running = replicate (length plan.caps) None;
}

-- what stands in a volume, where no job holds pages and no collection runs
abbrev pub checkpoint_of : {N : Type 0} → (N → List Block) → State N → Checkpoint
checkpoint_of blocks volume = record {
  places = volume.places;
  blocks = map counts_of (blocks volume.device);
  spare = volume.accounts.spare;
  balances = volume.accounts.balances;
}

-- the closed blocks up to a number are the candidates, each with the count of the pages that lie there and its erases
pub record AreClosedBelow (pages : ℕ) (blocks : List BlockCounts) (places : List (Option Place)) (candidates : Candidates) (below : ℕ)
    : Type 0 where
  pub pages_are : candidates.pages ≡ pages
  pub counts_len : length candidates.counts ≡ length blocks
  pub erases_len : length candidates.erases ≡ length blocks
  pub counted : (block n : ℕ) → count_of candidates.counts block ≡ Some n → ((counts_at blocks block).filled ≡ pages)
      × (n ≡ count_by (is_in block) places)
  pub worn : (block n : ℕ) → count_of candidates.counts block ≡ Some n → erases_of candidates.erases block
      ≡ (counts_at blocks block).erases
  pub closed : (block : ℕ) → block < below → (counts_at blocks block).filled ≡ pages → IsSome (count_of candidates.counts block)
  pub others : (block n : ℕ) → count_of candidates.counts block ≡ Some n → block < below

-- the tables of an array are those of a checkpoint
pub record AreTablesOf (shape : Shape) (c : Checkpoint) (t : Tables) : Type 0 where
  pub placed_is : t.placed ≡ record { shape = shape; places = c.places }
  pub fills_are : t.fills ≡ map (λ (b : BlockCounts). b.filled) c.blocks
  pub erases_are : t.erases.items ≡ map (λ (b : BlockCounts). b.erases) c.blocks
  pub writing_is : t.writing ≡ position (is_open_with shape.pages) t.fills
  pub victims_are : AreClosedBelow shape.pages c.blocks c.places t.victims shape.blocks
