-- The order of pairs of numbers.
use Rattle.std.specs.Prelude.{ℕ, ◌==◌, nat_lt, ◌&&◌, ◌||◌, Bool}

-- by the first number, and where it is equal by the second
abbrev pub is_pair_before : ℕ × ℕ → ℕ × ℕ → Bool
is_pair_before p q = nat_lt p.0 q.0 || (p.0 == q.0 && nat_lt p.1 q.1)
