-- What an operation asks for.
use Rattle.std.specs.Prelude.{ℕ, Bool, true, false, List, count_by, Option, Some, None}
use Rattle.slot_types.specs.declared.events.Op.{Op}
use Rattle.slot_types.specs.declared.events.Op.TheVariants as asks

abbrev pub page_of : Op → ℕ
page_of (asks.Read page) = page
page_of (asks.Write page bytes) = page
page_of (asks.Trim page) = page

abbrev pub is_write : Op → Bool
is_write (asks.Read page) = false
is_write (asks.Write page bytes) = true
is_write (asks.Trim page) = false

abbrev pub is_read : Op → Bool
is_read (asks.Read page) = true
is_read (asks.Write page bytes) = false
is_read (asks.Trim page) = false

abbrev pub is_some_write : Option Op → Bool
is_some_write None = false
is_some_write (Some op) = is_write op

-- how many of these operations write
abbrev pub writes : List Op → ℕ
writes ops = count_by is_write ops
