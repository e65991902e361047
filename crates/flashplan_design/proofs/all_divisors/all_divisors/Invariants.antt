use Rattle.std.proofs.Common.{ℕ, ◌≤◌, All}
use Rattle.std.specs.Prelude.{Contains}
use Rattle.flashplan_design.specs.Divisors.{Divides}
use Rattle.flashplan_design.proofs.all_divisors.all_divisors.Given as goal

abbrev pub invariant-loop-below : goal.invariant-loop-below
invariant-loop-below l = record {
  each : All (Divides l.of) l.found.items;
  whole : (n : ℕ) → n ≤ l.below → Divides l.of n → Contains l.found.items n;
}
