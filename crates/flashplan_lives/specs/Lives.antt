-- For how many slots the numbers of a die's jobs and collections last.
use Rattle.std.specs.Prelude.{ℕ, ◌+◌, ◌-◌, ◌<◌, ◌≤◌, min, List, length, sum_by, All}
use Rattle.std.specs.Int.{div_ceil}
use Rattle.slot_types.specs.declared.limits.TheConstants.{MAX_JOBS, MAX_SLOT}
use Rattle.slot_types.specs.declared.plans.TaskTimes.{TaskTimes}
use Rattle.plan_rules.specs.Times.{IsTaskTimes}

-- how often something with this period comes in `slots` slots: at each of its multiples, as long as a period is left to
-- the last deadline that there may be
abbrev pub comings : ℕ → ℕ → ℕ
comings slots period = div_ceil (min slots (MAX_SLOT + 1 - period)) period

-- how often a task asks in `slots` slots, for jobs and for collections
abbrev pub asked_by : ℕ → TaskTimes → ℕ
asked_by slots task = comings slots task.period + comings slots task.collect_period

-- how often all tasks do
abbrev pub asked_in : List TaskTimes → ℕ → ℕ
asked_in tasks slots = sum_by (asked_by slots) tasks

-- the times of a die's tasks, within their limits
pub record AreTasks (tasks : List TaskTimes) : Type 0 where
  pub few : length tasks ≤ 16
  pub each : All IsTaskTimes tasks

-- in `life` slots the tasks ask for no more than there are numbers, and in one slot more, if there may be one, they do
pub record IsLife (tasks : List TaskTimes) (life : ℕ) : Type 0 where
  pub few_slots : life ≤ MAX_SLOT
  pub lasts : asked_in tasks life ≤ MAX_JOBS
  pub most : life < MAX_SLOT → MAX_JOBS < asked_in tasks (life + 1)
