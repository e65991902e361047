use Rattle.std.proofs.Common.{ℕ, ◌<◌, ◌≤◌}
use Rattle.demand_rules.specs.Demand.{terms_of}
use Rattle.ongoing_die.proofs.lengths.first_too_late.Given as goal

abbrev pub invariant-loop-task : goal.invariant-loop-task
invariant-loop-task l = (before : ℕ) → before < l.task → (terms_of l.terms before).deadline ≤ l.life
