use Rattle.std.proofs.Common.{◌+◌, ◌-◌, ◌<◌, ◌≤◌}
use Rattle.slot_types.specs.declared.limits.TheConstants.{MAX_SLOT}
use Rattle.demand_rules.specs.Demand.{demand_in}
use Rattle.demand_rules.specs.Faults.{HasSlack}
use Rattle.demand_rules.proofs.intervals.tightest.Given as goal

abbrev pub invariant-loop-above : goal.invariant-loop-above
invariant-loop-above l = record {
  order : l.slack < l.above;
  few : l.above ≤ MAX_SLOT + 1;
  has : HasSlack l.plan l.terms MAX_SLOT l.slack;
  within : l.slots ≤ MAX_SLOT;
  asked : 1 ≤ demand_in l.plan l.terms l.slots;
  short : l.slots < demand_in l.plan l.terms l.slots + l.above;
}

abbrev pub decreases-loop-above : goal.decreases-loop-above
decreases-loop-above l = l.above - l.slack
