-- Plans with times, and the test that such a plan passes.
use Rattle.std.specs.Prelude.{◌≡◌, ℕ, ◌+◌, ◌-◌, ◌*◌, ◌/◌, ◌%◌, ◌≤◌, length, slice_index_or, sum_by, All, IfSome}
use Rattle.std.specs.List.{AllZip}
use Rattle.slot_types.specs.declared.plans.DiePlan.{DiePlan}
use Rattle.slot_types.specs.declared.limits.TheConstants.{MAX_SLOT, MAX_OPS}
use Rattle.slot_types.specs.declared.plans.TaskTimes.{TaskTimes}
use Rattle.slot_types.specs.declared.plans.Times.{Times}

-- the times of a task; a task that the plan doesn't have asks for nothing
abbrev pub times_of : Times → ℕ → TaskTimes
times_of times task = slice_index_or times.tasks task (record { period = 0; collect_period = 0; work = 0; writes = 0 })

-- the slots that a collection takes at most: two for each page that it may copy, and those of its erase
abbrev pub collection_work : DiePlan → ℕ
collection_work plan = 2 * (plan.shape.pages - plan.alpha) + plan.shape.erase_slots

-- the slots that the jobs and collections of a task take at most in `common` slots
abbrev pub task_demand : DiePlan → ℕ → TaskTimes → ℕ
task_demand plan common t = t.work * (common / t.period) + collection_work plan * (common / t.collect_period)

-- and those of all tasks
abbrev pub demand : DiePlan → Times → ℕ
demand plan times = sum_by (task_demand plan times.common) times.tasks

-- the times of a task are within their limits
pub record IsTaskTimes (t : TaskTimes) : Type 0 where
  pub some_period : 1 ≤ t.period
  pub few_period : t.period ≤ MAX_SLOT
  pub some_collect_period : 1 ≤ t.collect_period
  pub few_collect_period : t.collect_period ≤ MAX_SLOT
  pub some_work : 1 ≤ t.work
  pub few_work : t.work ≤ MAX_OPS
  pub few_writes : t.writes ≤ t.work

-- each task has its times, all within their limits
pub record HasTimes (plan : DiePlan) (times : Times) : Type 0 where
  pub one_each : length times.tasks ≡ length plan.caps
  pub some_common : 1 ≤ times.common
  pub few_common : times.common ≤ MAX_SLOT
  pub each : All IsTaskTimes times.tasks

-- both periods of a task divide the hyperperiod; its collections give it at least what its jobs write; and its cap
-- covers two jobs and two collections
pub record IsSustained (plan : DiePlan) (common cap : ℕ) (t : TaskTimes) : Type 0 where
  pub period_divides : common % t.period ≡ 0
  pub collect_period_divides : common % t.collect_period ≡ 0
  pub regained : t.writes * t.collect_period ≤ plan.alpha * t.period
  pub stocked : 2 * t.writes + 2 * plan.alpha ≤ cap

-- a plan whose die can do all that its tasks ask for
pub record Passes (plan : DiePlan) (times : Times) : Type 0 where
  pub timed : HasTimes plan times
  pub sustained : AllZip (IsSustained plan times.common) plan.caps times.tasks
  pub fits : demand plan times ≤ times.common

-- its own times, if it has any, are such
abbrev pub PassesItsTimes : DiePlan → Type 0
PassesItsTimes plan = IfSome plan.times (Passes plan)
