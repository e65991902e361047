-- Plans as C has them.
use Rattle.std.specs.Prelude.{ℕ, List, map, Option, Some, None, ◌==◌, if◌then◌else◌, IfSome, ⊤}
use Rattle.slot_types.specs.declared.plans.DiePlan.{DiePlan}
use Rattle.slot_types.specs.declared.plans.Times.{Times}
use Rattle.slot_types.specs.declared.plans.TaskTimes.{TaskTimes}
use Rattle.slot_types.specs.declared.plans.Shape.{Shape}
use Rattle.slot_types.specs.declared.refusals.Refusal.{Refusal}
use Rattle.slot_types.specs.declared.refusals.Refusal.TheVariants.{BadShape, BadPlan, NoMemory}
use Rattle.slot_types.specs.Shapes.{IsShape}
use Rattle.plan_rules.specs.Bound.{MeetsBound}
use Rattle.plan_rules.specs.Times.{HasTimes}
use Rattle.flash_c.specs.declared.shapes.FlashPlan.{FlashPlan}
use Rattle.flash_c.specs.declared.shapes.FlashTask.{FlashTask}

abbrev pub shape_in : FlashPlan → Shape
shape_in plan = record { blocks = plan.blocks; pages = plan.pages; erase_slots = plan.erase_slots }

abbrev pub cap_in : FlashTask → ℕ
cap_in task = task.cap

abbrev pub times_in : FlashTask → TaskTimes
times_in task = record { period = task.period; collect_period = task.collect_period; work = task.work; writes = task.writes }

-- a plan has times where `common` isn't 0
abbrev pub all_times : FlashPlan → List FlashTask → Option Times
all_times plan tasks = if plan.common == 0 then None else Some (record { common = plan.common; tasks = map times_in tasks })

-- the plan that these stand for
abbrev pub plan_in : FlashPlan → List FlashTask → DiePlan
plan_in plan tasks = record {
  shape = shape_in plan;
  logical = plan.logical;
  alpha = plan.alpha;
  caps = map cap_in tasks;
  times = all_times plan tasks;
}

-- its times, if it has any, are within their limits
abbrev pub IsTimed : DiePlan → Type 0
IsTimed plan = IfSome plan.times (HasTimes plan)

-- why no die is made of a plan: its shape is out of its limits; else it doesn't meet its bound, or its times are out of
-- theirs; or there was no memory
abbrev pub RefusesPlan : DiePlan → Refusal → Type 0
RefusesPlan plan BadShape = ¬ IsShape plan.shape
RefusesPlan plan BadPlan = IsShape plan.shape × ¬ (MeetsBound plan × IsTimed plan)
RefusesPlan plan NoMemory = ⊤
RefusesPlan plan _ = ⊥
