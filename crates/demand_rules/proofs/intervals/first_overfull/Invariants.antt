use Rattle.std.proofs.Common.{ℕ, ◌-◌, ◌<◌, ◌≤◌}
use Rattle.slot_types.specs.declared.limits.TheConstants.{MAX_SLOT}
use Rattle.demand_rules.specs.Demand.{demand_in}
use Rattle.demand_rules.proofs.intervals.first_overfull.Given as goal

abbrev pub invariant-loop-over : goal.invariant-loop-over
invariant-loop-over l = record {
  order : l.fit < l.over;
  within : l.over ≤ MAX_SLOT;
  asked : l.over < demand_in l.plan l.terms l.over;
  fits : (fewer : ℕ) → fewer ≤ l.fit → demand_in l.plan l.terms fewer ≤ fewer;
}

abbrev pub decreases-loop-over : goal.decreases-loop-over
decreases-loop-over l = l.over - l.fit
