use Rattle.std.proofs.Common.{ℕ, ◌+◌, ◌*◌, ◌<◌}
use Rattle.flashplan_design.specs.Numbers.{DieDoes, IsAlike}
use Rattle.flashplan_design.proofs.divisors.greatest_divisor.Given as goal

abbrev pub invariant-loop-part : goal.invariant-loop-part
invariant-loop-part l = record {
  same : IsAlike l.which l.trial l.fn.plan;
  none : (more : ℕ) → l.common < more * l.part → ¬ DieDoes l.which l.fn.plan more;
}

abbrev pub invariant-loop-back : goal.invariant-loop-back
invariant-loop-back l = record {
  same : IsAlike l.which l.trial l.fn.plan;
  none : (more : ℕ) → 1024 < more + l.back → ¬ DieDoes l.which l.fn.plan more;
}
