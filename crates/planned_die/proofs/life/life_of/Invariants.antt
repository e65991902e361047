use Rattle.std.proofs.Common.{ℕ, ◌≤◌}
use Rattle.planned_die.specs.NewPlans.{IsSomeLife}
use Rattle.planned_die.proofs.life.life_of.Given as goal

abbrev pub invariant-loop-left : goal.invariant-loop-left
invariant-loop-left l = record {
  within : l.left ≤ l.longest;
  few : l.left ≤ 1048576;
  none : (other : ℕ) → IsSomeLife l.plan l.terms l.longest other → other ≤ l.left;
}

abbrev pub decreases-loop-left : goal.decreases-loop-left
decreases-loop-left l = l.left
