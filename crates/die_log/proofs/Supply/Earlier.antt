-- A start that is stocked for a plan with times is stocked for its terms.
use Rattle.std.proofs.Common.{◌≡◌, ℕ, ◌+◌, ◌*◌, ◌≤◌, slice_index, sym, subst, arith}
use Rattle.slot_types.specs.declared.plans.TaskTimes.{TaskTimes}
use Rattle.slot_types.specs.declared.plans.Times.{Times}
use Rattle.plan_rules.specs.Times.{times_of, Passes}
use Rattle.plan_rules.proofs.Moments.{task_sustained}
use Rattle.demand_rules.specs.declared.terms.TaskTerms.{TaskTerms}
use Rattle.demand_rules.specs.Earlier.{as_terms}
use Rattle.demand_rules.proofs.Earlier.{terms_are}
use Rattle.die_log.specs.Model.Start.{Start}
use Rattle.die_log.specs.Results.Supply as earlier
use Rattle.die_log.specs.Results.Covered.{AreStocked}

pub stocked_before : (start : Start) (times : Times) → Passes start.plan times → earlier.AreStocked start times → AreStocked start (as_terms times)
stocked_before start times passes stocked task lt =
    let t : TaskTimes = times_of times task in
    let regained = (task_sustained start.plan times task passes lt).regained in
    subst (λ (u : TaskTerms). u.period * slice_index start.plan.caps task
    ≤ u.period * slice_index start.accounts.balances task + u.writes * u.held + start.plan.alpha * u.period) (sym (terms_are times task))
    (omega (arith, stocked task lt, regained, turned t.period t.writes))
  where
    turned : (a b : ℕ) → a * b ≡ b * a
    turned a b = grind arith
