-- The test that each task's balance covers its next job.
use Rattle.std.specs.Prelude.{ℕ, ◌+◌, ◌*◌, ◌≤◌}
use Rattle.std.specs.List.{AllZip}
use Rattle.slot_types.specs.declared.plans.DiePlan.{DiePlan}
use Rattle.demand_rules.specs.declared.terms.TaskTerms.{TaskTerms}
use Rattle.demand_rules.specs.declared.terms.Terms.{Terms}
use Rattle.demand_rules.specs.Demand.{HasTerms}

-- a task's collections give it at least what its jobs write; and its cap covers what they write in a period, and in as
-- many slots as a job may be held, and two collections
pub record IsSustained (plan : DiePlan) (cap : ℕ) (t : TaskTerms) : Type 0 where
  pub regained : t.writes * t.collect_period ≤ plan.alpha * t.period
  pub stocked : t.writes * (t.period + t.held) + 2 * plan.alpha * t.period ≤ cap * t.period

pub record PassesSupply (plan : DiePlan) (terms : Terms) : Type 0 where
  pub has : HasTerms plan terms
  pub sustained : AllZip (IsSustained plan) plan.caps terms.tasks
