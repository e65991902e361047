use Rattle.std.proofs.Common.{ℕ, ◌<◌, ◌≤◌}
use Rattle.demand_rules.specs.Demand.{demand_in}
use Rattle.demand_trials.proofs.fits.fits.Given as goal

abbrev pub invariant-loop-end : goal.invariant-loop-end
invariant-loop-end l = record {
  within : l.end ≤ l.initial.end;
  room : (slots : ℕ) → l.end ≤ slots → slots < l.initial.end → demand_in l.plan l.terms slots ≤ slots;
}

abbrev pub decreases-loop-end : goal.decreases-loop-end
decreases-loop-end l = l.end
