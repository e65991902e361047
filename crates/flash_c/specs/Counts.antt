-- Counts and flags as C has them.
use Rattle.std.specs.Prelude.{ℕ, Bool, min, if◌then◌else◌}

-- a count stays at the greatest number of 32 bits
abbrev pub count_of : ℕ → ℕ
count_of length = min length 4294967295

-- a `bool` is 0 or 1
abbrev pub flag : Bool → ℕ
flag b = if b then 1 else 0
