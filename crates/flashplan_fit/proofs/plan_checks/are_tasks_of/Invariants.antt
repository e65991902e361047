use Rattle.std.proofs.Common.{ℕ, ◌<◌, get_or}
use Rattle.demand_rules.specs.declared.terms.TaskTerms.{TaskTerms}
use Rattle.flashplan_fit.specs.Fits.{IsTaskOf}
use Rattle.flashplan_fit.specs.declared.datasheets.Need.{Need}
use Rattle.flashplan_fit.proofs.plan_checks.are_tasks_of.Given as goal

abbrev pub invariant-loop-i : goal.invariant-loop-i
invariant-loop-i l = (k : ℕ) (need : Need) (task : TaskTerms) → k < l.i
    → IsTaskOf l.slot_us (get_or l.needs k need) (get_or l.tasks k task)
