-- Ranks of numbers.
use Rattle.std.specs.Prelude.{◌≡◌, ℕ, ℤ, ◌+◌, ◌*◌, ◌/◌, ◌-◌, List, length, Option, slice_get, IsPermutation, IsSorted}
use Rattle.std.specs.Ordering.{int_cmp}
use Rattle.flashplan_run_figures.specs.declared.records.Lateness.{Lateness}

-- the numbers in rising order
pub record IsRising (numbers rising : List ℤ) : Type 0 where
  pub same : IsPermutation numbers rising
  pub sorted : IsSorted int_cmp rising

-- the greatest of rising numbers; none of none
abbrev pub greatest : List ℤ → Option ℤ
greatest rising = slice_get rising (length rising - 1)

-- the least of rising numbers that `per_mille` in a thousand don't exceed, by the nearest rank; none of none
abbrev pub nearest_rank : List ℤ → ℕ → Option ℤ
nearest_rank rising per_mille = slice_get rising ((length rising * per_mille + 999) / 1000 - 1)

-- how late jobs were done that have these latenesses: the mean is some number
pub record IsRanked (lateness : List ℤ) (ranked : Lateness) : Type 0 where
  pub rising : List ℤ
  pub is : IsRising lateness rising
  pub worst : ranked.worst ≡ greatest rising
  pub p99 : ranked.p99 ≡ nearest_rank rising 990
