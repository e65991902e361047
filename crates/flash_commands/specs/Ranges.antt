-- Numbers within a range.
use Rattle.std.specs.Prelude.{ℕ, nat_le, ◌&&◌, Option, Some, None, if◌then◌else◌}

-- a number, if it lies from the first of these to the second
abbrev pub number_within : ℕ → ℕ → ℕ → Option ℕ
number_within least most n = if nat_le least n && nat_le n most then Some n else None
