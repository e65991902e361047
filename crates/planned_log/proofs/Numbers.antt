-- No more jobs and collections come in a life than it has slots, where the plan passes the test of demand.
use Rattle.std.proofs.Common.{◌≡◌, ℕ, ◌*◌, ◌≤◌, List, [], ◌∷◌, sum_by, arith}
use Rattle.std.proofs.Math.Nat.{mul-le-mul_right}
use Rattle.std.proofs.lemmas.List.Sums.{sum_by-cons}
use Rattle.slot_types.specs.declared.limits.TheConstants.{MAX_SLOT}
use Rattle.slot_types.specs.declared.plans.DiePlan.{DiePlan}
use Rattle.plan_rules.specs.Times.{collection_work}
use Rattle.demand_rules.specs.declared.terms.TaskTerms.{TaskTerms}
use Rattle.demand_rules.specs.declared.terms.Terms.{Terms}
use Rattle.demand_rules.specs.Demand.{periods_within, task_demand_in, PassesDemand}
use Rattle.planned_log.specs.Lives.{task_arrivals, most_arrivals}

one_each : (n k : ℕ) → 1 ≤ k → n ≤ k * n
one_each n k some = omega (arith, mul-le-mul_right n some, one_time n)
  where
    one_time : (m : ℕ) → 1 * m ≡ m
    one_time m = grind arith

-- each takes a slot at least
less_than_demand : (plan : DiePlan) → 1 ≤ collection_work plan → (slots : ℕ) (ts : List TaskTerms)
    → sum_by (task_arrivals slots) ts ≤ sum_by (task_demand_in plan slots) ts
less_than_demand plan some slots [] = omega arith
less_than_demand plan some slots (t ∷ ts) = omega (
  arith,
  sum_by-cons (task_arrivals slots) t ts,
  sum_by-cons (task_demand_in plan slots) t ts,
  one_each (periods_within t.collect_period t.collect_deadline slots) (collection_work plan) some,
  less_than_demand plan some slots ts,
)

pub few_as_slots : (plan : DiePlan) (terms : Terms) (life : ℕ) → 1 ≤ plan.shape.erase_slots → PassesDemand plan terms → life ≤ MAX_SLOT
    → most_arrivals terms life ≤ life
few_as_slots plan terms life some passes within =
    let work : 1 ≤ collection_work plan = omega (arith, some) in
    omega (arith, less_than_demand plan work life terms.tasks, passes.fits life within)
