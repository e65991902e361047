use Rattle.std.proofs.Common.{ℕ, ◌+◌, ◌≤◌}
use Rattle.demand_rules.specs.Demand.{demand_in}
use Rattle.demand_rules.proofs.intervals.short_of.Given as goal

abbrev pub invariant-loop-end : goal.invariant-loop-end
invariant-loop-end l = record {
  within : l.end ≤ l.limit + 1;
  room : (slots : ℕ) → l.end ≤ slots → slots ≤ l.limit → demand_in l.plan l.terms slots + l.slack ≤ slots;
}

abbrev pub decreases-loop-end : goal.decreases-loop-end
decreases-loop-end l = l.end
