use Rattle.std.proofs.Common.{ℕ, ◌+◌, ◌<◌, ◌≤◌}
use Rattle.flashplan_design.specs.Numbers.{DieDoes, IsAlike}
use Rattle.flashplan_design.proofs.solving.greatest.Given as goal

abbrev pub invariant-loop-back : goal.invariant-loop-back
invariant-loop-back l = record {
  same : IsAlike l.which l.trial l.fn.plan;
  none : (more : ℕ) → l.to < more + l.back → more ≤ l.to → ¬ DieDoes l.which l.fn.plan more;
}
