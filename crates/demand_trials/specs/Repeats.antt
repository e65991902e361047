-- Up to which number of slots it is enough to look, since what is asked of more repeats.
use Rattle.std.specs.Prelude.{ℕ, ◌≡◌, ◌%◌, ◌<◌, ◌≤◌}
use Rattle.slot_types.specs.declared.plans.DiePlan.{DiePlan}
use Rattle.demand_rules.specs.declared.terms.TaskTerms.{TaskTerms}
use Rattle.demand_rules.specs.declared.terms.Terms.{Terms}
use Rattle.demand_rules.specs.Demand.{demand_in}

-- what may be asked of any fewer slots than these fits into them
abbrev pub FitsBelow : DiePlan → Terms → ℕ → Type 0
FitsBelow plan terms end = (slots : ℕ) → slots < end → demand_in plan terms slots ≤ slots

-- both periods of a task divide a number of slots
pub record Divide (common : ℕ) (t : TaskTerms) : Type 0 where
  pub period : common % t.period ≡ 0
  pub collect_period : common % t.collect_period ≡ 0

-- both deadlines of a task lie within a number of slots
pub record AreDueBy (far : ℕ) (t : TaskTerms) : Type 0 where
  pub deadline : t.deadline ≤ far
  pub collect_deadline : t.collect_deadline ≤ far
