-- What a book of numbers replies and answers, read off its entries.
use Rattle.std.specs.Prelude.{◌≡◌, ◌≢◌, ℕ, ◌<◌, Bool, true, false, List, length, Option, Some, None, slice_get}
use Rattle.std.specs.List.{All}
use Rattle.turn_lock.specs.declared.entry.Entry.{Entry}
use Rattle.test_lock_book.specs.declared.numbers.NumberReply.{NumberReply}
use Rattle.test_lock_book.specs.declared.numbers.NumberReply.TheVariants.{Added, Zero, Full, NoMemory}

abbrev pub is_added : NumberReply → Bool
is_added Added = true
is_added Zero = false
is_added Full = false
is_added NoMemory = false

-- a 0 is refused, and any number once there are as many entries as a book may have
abbrev pub Gives : List (Entry ℕ NumberReply) → ℕ → NumberReply → Type 0
Gives log number Added = (number ≢ 0) × (length log < 4294967295)
Gives log number Zero = number ≡ 0
Gives log number Full = (number ≢ 0) × (length log ≡ 4294967295)
Gives log number NoMemory = (number ≢ 0) × (length log < 4294967295)

abbrev pub number_of : Option (Entry ℕ NumberReply) → Option ℕ
number_of None = None
number_of (Some e) = Some e.event

-- the number of the entry at this place, counted from 0
abbrev pub number_at : List (Entry ℕ NumberReply) → ℕ → Option ℕ
number_at log place = number_of (slice_get log place)

abbrev pub HasNoZero : List (Entry ℕ NumberReply) → Type 0
HasNoZero log = All (λ e. e.event ≢ 0) log
