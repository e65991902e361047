-- The plan of a store that the numbers of a text make, or why they make none.
use Rattle.std.specs.Prelude.{◌≡◌, ◌==◌, ℕ, ◌<◌, ◌≤◌, ◌⊎◌, List, map, filter, All, Option, Result, Ok, Err}
use Rattle.std.specs.List.{range_with_len, filter_map}
use Rattle.std.specs.Option.{option_map}
use Rattle.plan_rules.specs.Bound.{IsShape, MeetsBound}
use Rattle.plan_rules.specs.Times.{PassesItsTimes}
use Rattle.slot_types.specs.declared.plans.DiePlan.{DiePlan}
use Rattle.slot_types.specs.declared.plans.Shape.{Shape}
use Rattle.slot_types.specs.declared.plans.TaskTimes.{TaskTimes}
use Rattle.slot_types.specs.declared.plans.Times.{Times}
use Rattle.slot_types.specs.declared.refusals.Refusal.{Refusal}
use Rattle.slot_types.specs.declared.refusals.Refusal.TheVariants.{BadShape, BadPlan}
use Rattle.plan_texts.specs.declared.numbers.PlanNumbers.{PlanNumbers}
use Rattle.plan_texts.specs.declared.numbers.TaskNumbers.{TaskNumbers}
use Rattle.plan_texts.specs.declared.numbers.TopNumbers.{TopNumbers}

-- the shape of all dies
abbrev pub shape_of : TopNumbers → Shape
shape_of top = record { blocks = top.blocks; pages = top.pages; erase_slots = top.erase_slots }

-- the caps of a die's tasks, in the order of the text
abbrev pub caps_of : List TaskNumbers → ℕ → List ℕ
caps_of tasks die = map (λ (task : TaskNumbers). task.cap) (filter (λ (task : TaskNumbers). task.die == die) tasks)

-- their times, if the plan has any, in the same order
abbrev pub times_of_tasks : List TaskNumbers → ℕ → List TaskTimes
times_of_tasks tasks die = filter_map (λ (task : TaskNumbers). task.times) (filter (λ (task : TaskNumbers). task.die == die) tasks)

-- the times of a die, in a plan with times
abbrev pub times_of : PlanNumbers → ℕ → Option Times
times_of plan die = option_map (λ common. record { common = common; tasks = times_of_tasks plan.tasks die }) plan.top.common

-- the plan of a die
abbrev pub die_of : PlanNumbers → ℕ → DiePlan
die_of plan die = record {
  shape = shape_of plan.top;
  logical = plan.top.logical;
  alpha = plan.top.alpha;
  caps = caps_of plan.tasks die;
  times = times_of plan die;
}

-- the plans of the dies, all alike except for the caps and the times
abbrev pub dies_of : PlanNumbers → List DiePlan
dies_of plan = map (die_of plan) (range_with_len 0 plan.top.dies)

-- the number of dies and their shape are within their limits
pub record IsShaped (top : TopNumbers) : Type 0 where
  pub some_dies : 1 ≤ top.dies
  pub few_dies : top.dies ≤ 8
  pub shape : IsShape (shape_of top)

-- a die meets its bound, and passes the test of its times if it has any
pub record IsUsable (die : DiePlan) : Type 0 where
  pub bound : MeetsBound die
  pub passes : PassesItsTimes die

-- each task names a die that is there, and each die is usable
pub record HasUsableDies (plan : PlanNumbers) : Type 0 where
  pub named : All (λ (task : TaskNumbers). task.die < plan.top.dies) plan.tasks
  pub usable : (die : ℕ) → die < plan.top.dies → IsUsable (die_of plan die)

-- the store of a plan that may be used
pub record IsStore (plan : PlanNumbers) (store : List DiePlan) : Type 0 where
  pub dies : store ≡ dies_of plan
  pub shaped : IsShaped plan.top
  pub served : HasUsableDies plan

-- why the numbers of a text make no store: the shape first, and then the rest
abbrev pub RefusesStore : PlanNumbers → Refusal → Type 0
RefusesStore plan refusal = ((refusal ≡ BadShape) × ¬ IsShaped plan.top) ⊎ ((refusal ≡ BadPlan) × (IsShaped plan.top × ¬ HasUsableDies plan))

-- why a text makes no store: its own fault, or what its numbers lack
abbrev pub RefusesPlan : Result PlanNumbers Refusal → Refusal → Type 0
RefusesPlan (Err fault) refusal = refusal ≡ fault
RefusesPlan (Ok plan) refusal = RefusesStore plan refusal
