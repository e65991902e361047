-- What a checkpoint says of blocks and of places.
use Rattle.std.specs.Prelude.{ℕ, ◌+◌, ◌-◌, ◌&&◌, nat_lt, not, Bool, false, List, Option, Some, None, slice_index_or, drop, position, option_map}
use Rattle.slot_types.specs.declared.pages.Place.{Place}
use Rattle.die_checkpoint.specs.declared.checkpoint.BlockCounts.{BlockCounts}

-- a block that was never programmed, and one that isn't there
abbrev pub no_counts : BlockCounts
no_counts = record { filled = 0; erases = 0 }

abbrev pub counts_at : List BlockCounts → ℕ → BlockCounts
counts_at blocks block = slice_index_or blocks block no_counts

-- more pages are programmed than there are
abbrev pub is_overfull : ℕ → BlockCounts → Bool
is_overfull pages block = nat_lt pages block.filled

-- some pages are programmed, and some are free
abbrev pub is_open : ℕ → BlockCounts → Bool
is_open pages block = nat_lt 0 block.filled && nat_lt block.filled pages

-- the first open block from a number on
abbrev pub open_from : ℕ → ℕ → List BlockCounts → Option ℕ
open_from pages from blocks = option_map (λ beyond. from + beyond) (position (is_open pages) (drop from blocks))

-- with more erases a block's count might reach the greatest that a device counts to before the last slot of a life
abbrev pub most_erases : ℕ
most_erases = 4293918718

abbrev pub is_worn : BlockCounts → Bool
is_worn block = nat_lt most_erases block.erases

abbrev pub free_in : ℕ → BlockCounts → ℕ
free_in pages block = pages - block.filled

-- the page lies in a cell that isn't programmed, or isn't there
abbrev pub is_astray : List BlockCounts → Option Place → Bool
is_astray blocks None = false
is_astray blocks (Some place) = not (nat_lt place.page (counts_at blocks place.block).filled)
