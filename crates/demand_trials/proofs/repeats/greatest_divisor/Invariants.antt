use Rattle.std.proofs.Common.{ℕ, ◌≤◌}
use Rattle.std.specs.Int.{IsGcd}
use Rattle.demand_trials.proofs.repeats.greatest_divisor.Given as goal

abbrev pub invariant-loop-rest : goal.invariant-loop-rest
invariant-loop-rest l = record {
  some : 1 ≤ l.divisor;
  greatest : (g : ℕ) → IsGcd l.divisor l.rest g → IsGcd l.fn.first l.fn.second g;
}

abbrev pub decreases-loop-rest : goal.decreases-loop-rest
decreases-loop-rest l = l.rest
