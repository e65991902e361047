use Rattle.std.proofs.Common.{ℕ, ◌<◌, get_or}
use Rattle.demand_rules.specs.declared.terms.TaskTerms.{TaskTerms}
use Rattle.demand_rules.specs.Demand.{IsTaskTerms}
use Rattle.demand_rules.proofs.limits.first_out.Given as goal

abbrev pub invariant-loop-i : goal.invariant-loop-i
invariant-loop-i l = (k : ℕ) (other : TaskTerms) → k < l.i → IsTaskTerms (get_or l.tasks k other)
