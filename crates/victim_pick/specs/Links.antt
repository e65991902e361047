-- Lists of blocks, one for each count, linked by block numbers.
use Rattle.std.specs.Prelude.{◌≡◌, ℕ, ◌+◌, ◌^◌, ◌<◌, ◌≤◌, List, length, Option, Some, None, slice_index_or, slice_set}
use Rattle.victim_pick.specs.Candidates.{count_of}

-- the largest count, and by block the count whose list it is in
pub record CountLists : Type 0 where
  pub pages : ℕ
  pub counts : List (Option ℕ)

-- the links with that of a block set, if there is one
abbrev pub set_at : List (Option ℕ) → Option ℕ → Option ℕ → List (Option ℕ)
set_at links None link = links
set_at links (Some block) link = slice_set links block link

-- the first blocks with that of a count set, if no block is before it
abbrev pub set_first : List (Option ℕ) → Option ℕ → ℕ → Option ℕ → List (Option ℕ)
set_first firsts None count first = slice_set firsts count first
set_first firsts (Some before) count first = firsts

-- of the blocks with a count that have a place below a limit this has the highest place, if there are any
pub record IsHighest (counts : List (Option ℕ)) (place : ℕ → ℕ) (count limit : ℕ) (found : Option ℕ) : Type 0 where
  pub counted : (block : ℕ) → found ≡ Some block → count_of counts block ≡ Some count
  pub below : (block : ℕ) → found ≡ Some block → place block < limit
  pub highest : (other : ℕ) → count_of counts other ≡ Some count → place other < limit
      → (block : ℕ) × (found ≡ Some block) × (place other ≤ place block)

-- this one is before a block in the list of a count: the block is its next one. Before the first of a list there is
-- none
abbrev pub IsBefore : List (Option ℕ) → List (Option ℕ) → List (Option ℕ) → ℕ → ℕ → Option ℕ → Type 0
IsBefore counts firsts nexts count block None = slice_index_or firsts count None ≡ Some block
IsBefore counts firsts nexts count block (Some before) = (count_of counts before ≡ Some count)
    × (slice_index_or nexts before None ≡ Some block)

-- All blocks stand in an order, in which each has a place of its own, below their number. The list of a count goes from
-- the highest place of its blocks down: so it has each block with that count, and each once. No vector keeps the
-- places: it is enough that there are some.
pub record AreLinked (pages : ℕ) (counts firsts nexts befores : List (Option ℕ)) : Type 0 where
  pub few_pages : pages < 2 ^ 32
  pub firsts_len : length firsts ≡ pages + 1
  pub nexts_len : length nexts ≡ length counts
  pub befores_len : length befores ≡ length counts
  pub fit : (block count : ℕ) → count_of counts block ≡ Some count → count ≤ pages
  pub place : ℕ → ℕ
  pub places : (block : ℕ) → block < length counts → place block < length counts
  pub apart : (one other : ℕ) → one < length counts → other < length counts → place one ≡ place other → one ≡ other
  pub firsts_are : (count : ℕ) → count ≤ pages
      → IsHighest counts place count (length counts) (slice_index_or firsts count None)
  pub nexts_are : (block count : ℕ) → count_of counts block ≡ Some count
      → IsHighest counts place count (place block) (slice_index_or nexts block None)
  pub befores_are : (block count : ℕ) → count_of counts block ≡ Some count
      → IsBefore counts firsts nexts count block (slice_index_or befores block None)
