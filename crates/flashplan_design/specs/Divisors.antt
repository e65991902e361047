-- The divisors of a number.
use Rattle.std.specs.Prelude.{◌≡◌, ℕ, ◌%◌, ◌≤◌, List, All, Contains}

-- a divisor of a number, from 1 to that number
abbrev pub Divides : ℕ → ℕ → Type 0
Divides of n = (1 ≤ n) × (n ≤ of) × (of % n ≡ 0)

-- a list of divisors of a number, and it has all of them
pub record AreAllDivisors (of : ℕ) (found : List ℕ) : Type 0 where
  pub each : All (Divides of) found
  pub whole : (n : ℕ) → Divides of n → Contains found n
