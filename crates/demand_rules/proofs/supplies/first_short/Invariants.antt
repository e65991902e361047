use Rattle.std.proofs.Common.{ℕ, ◌<◌, get_or}
use Rattle.demand_rules.specs.declared.terms.TaskTerms.{TaskTerms}
use Rattle.demand_rules.specs.Supply.{IsSustained}
use Rattle.demand_rules.proofs.supplies.first_short.Given as goal

abbrev pub invariant-loop-i : goal.invariant-loop-i
invariant-loop-i l = (k : ℕ) (cap : ℕ) (task : TaskTerms) → k < l.i → IsSustained l.plan (get_or l.caps k cap) (get_or l.tasks k task)
