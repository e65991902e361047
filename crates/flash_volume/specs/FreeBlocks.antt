-- Sets of blocks as bits, and the set of those that are wholly free.
use Rattle.std.specs.Prelude.{◌≡◌, ◌≢◌, ℕ, ◌*◌, ◌/◌, ◌%◌, ◌<◌, ◌≤◌, List, length, slice_index}
use Rattle.std.specs.Int.{bit_at, div_ceil}

-- 1 where the block is in the set, and else 0
abbrev pub bit_of : List ℕ → ℕ → ℕ
bit_of words block = bit_at (slice_index words (block / 64)) (block % 64)

-- how many words `blocks` blocks take
abbrev pub words_for : ℕ → ℕ
words_for blocks = div_ceil blocks 64

-- the summary says which words aren't 0
pub record Summarizes (words : List ℕ) (summary : ℕ) : Type 0 where
  pub few : length words ≤ 64
  pub some : (word : ℕ) → bit_at summary word ≡ 1 → 0 < slice_index words word
  pub none : (word : ℕ) → bit_at summary word ≡ 0 → slice_index words word ≡ 0

-- the bit of this block is set so, and the others stay
pub record HasSet (block bit : ℕ) (old new : List ℕ) : Type 0 where
  pub here : bit_of new block ≡ bit
  pub others : (other : ℕ) → other ≢ block → bit_of new other ≡ bit_of old other
  pub len : length new ≡ length old

-- the block is in the set, and none before it
pub record IsLeastIn (words : List ℕ) (block : ℕ) : Type 0 where
  pub within : bit_of words block ≡ 1
  pub first : (earlier : ℕ) → earlier < block → bit_of words earlier ≡ 0

-- of the blocks below a number those are in the set of which no cell is programmed, and no others
pub record MarksFree (counts words : List ℕ) (below : ℕ) : Type 0 where
  pub len : length counts ≤ 64 * length words
  pub in_range : (block : ℕ) → bit_of words block ≡ 1 → block < below
  pub free : (block : ℕ) → bit_of words block ≡ 1 → slice_index counts block ≡ 0
  pub marked : (block : ℕ) → block < below → slice_index counts block ≡ 0 → bit_of words block ≡ 1
