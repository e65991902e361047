use Rattle.std.proofs.Common.{ℕ, ◌-◌, ◌*◌, ◌<◌, ◌≤◌}
use Rattle.flashplan_design.specs.Numbers.{DieDoes, IsAlike}
use Rattle.flashplan_design.proofs.divisors.least_divisor.Given as goal

abbrev pub invariant-loop-n : goal.invariant-loop-n
invariant-loop-n l = record {
  same : IsAlike l.which l.trial l.fn.plan;
  none : (fewer : ℕ) → 1 ≤ fewer → fewer < l.n → ¬ DieDoes l.which l.fn.plan fewer;
}

abbrev pub invariant-loop-back : goal.invariant-loop-back
invariant-loop-back l = record {
  same : IsAlike l.which l.trial l.fn.plan;
  none : (fewer : ℕ) → 1 ≤ fewer → fewer * (1024 - l.back) < l.common → ¬ DieDoes l.which l.fn.plan fewer;
}
