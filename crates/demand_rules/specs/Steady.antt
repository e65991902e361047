-- Numbers of slots between which no deadline lies, so that as much is asked of one as of another.
use Rattle.std.specs.Prelude.{ℕ, ◌≡◌, ◌<◌, ◌≤◌, List, sum_by}
use Rattle.slot_types.specs.declared.plans.DiePlan.{DiePlan}
use Rattle.demand_rules.specs.declared.terms.TaskTerms.{TaskTerms}
use Rattle.demand_rules.specs.Demand.{task_demand_in}

-- an amount is the same at all numbers from one to below another
abbrev pub IsSteady : (ℕ → ℕ) → (from end : ℕ) → Type 0
IsSteady amount from end = (first second : ℕ) → from ≤ first → first < end → from ≤ second → second < end → amount first ≡ amount second

-- and what tasks ask for is, in each plan
abbrev pub AreSteady : List TaskTerms → (from end : ℕ) → Type 0
AreSteady tasks from end = (plan : DiePlan) → IsSteady (λ slots. sum_by (task_demand_in plan slots) tasks) from end
