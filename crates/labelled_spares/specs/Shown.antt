-- What a part with spare blocks may show once its power has come.
use Rattle.std.specs.Prelude.{◌≡◌, ◌≢◌, ◌⊎◌, ℕ, ◌<◌, ◌≤◌, List, None, length, Contains, slice_index_or}
use Rattle.power_loss.specs.Labels.{Shown, label_at}
use Rattle.spare_blocks.specs.Parts.{PartBlock, part_block, blank_cell}
use Rattle.spare_blocks.specs.Powering.{mark_at, HasNoMark}
use Rattle.labelled_spares.specs.Labels.{block_labels}

-- a block that was being filled with what this one holds: so far it has the same cells, and no label from there on
pub record IsCopyOf (own copy : PartBlock) : Type 0 where
  pub end : ℕ
  pub same : (page : ℕ) → page < end → slice_index_or copy.cells page blank_cell ≡ slice_index_or own.cells page blank_cell
  pub none : (page : ℕ) → end ≤ page → mark_at copy page ≡ None

-- Where this may be seen of the blocks of a device by their numbers, its part shows it so: for each number in a block of its own,
-- which isn't listed as bad. Each other block that isn't listed has no label, or it was being filled with what such a
-- block holds.
pub record MayShow (n : ℕ) (bad : List ℕ) (seen : Shown) (shown : List PartBlock) : Type 0 where
  pub block : ℕ → ℕ
  pub has : (b : ℕ) → b < n → block b < length shown
  pub labels : (b page : ℕ) → b < n → slice_index_or (block_labels (part_block shown (block b))) page None ≡ label_at seen (record { block = b; page = page })
  pub apart : (b c : ℕ) → b < n → c < n → block b ≡ block c → b ≡ c
  pub unlisted : (b : ℕ) → b < n → Contains bad (block b) → ⊥
  pub others : (x : ℕ) → x < length shown → (Contains bad x → ⊥) → ((b : ℕ) → b < n → block b ≢ x)
      → HasNoMark (part_block shown x) ⊎ ((b : ℕ) × (b < n) × IsCopyOf (part_block shown (block b)) (part_block shown x))
