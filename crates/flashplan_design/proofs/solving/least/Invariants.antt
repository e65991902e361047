use Rattle.std.proofs.Common.{ℕ, ◌<◌, ◌≤◌}
use Rattle.flashplan_design.specs.Numbers.{DieDoes, IsAlike}
use Rattle.flashplan_design.proofs.solving.least.Given as goal

abbrev pub invariant-loop-n : goal.invariant-loop-n
invariant-loop-n l = record {
  same : IsAlike l.which l.trial l.fn.plan;
  none : (fewer : ℕ) → l.from ≤ fewer → fewer < l.n → ¬ DieDoes l.which l.fn.plan fewer;
}
