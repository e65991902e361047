-- Numbers of slots that periods divide.
use Rattle.std.specs.Prelude.{◌≡◌, ℕ, ◌%◌, ◌<◌, ◌≤◌, List, All, Option, Some, None, IfSome}
use Rattle.slot_types.specs.declared.limits.TheConstants.{MAX_SLOT}
use Rattle.slot_types.specs.declared.plans.TaskTimes.{TaskTimes}
use Rattle.slot_types.specs.declared.plans.Times.{Times}
use Rattle.plan_texts.specs.Stores.{die_of}
use Rattle.plan_texts.specs.declared.numbers.PlanNumbers.{PlanNumbers}
use Rattle.flashplan_design.specs.declared.commons.Periods.{Periods}
use Rattle.flashplan_design.specs.declared.commons.Periods.TheVariants as periods

-- these periods of a task divide a number of slots
abbrev pub Divide : Periods → ℕ → TaskTimes → Type 0
Divide periods.All common task = (common % task.period ≡ 0) × (common % task.collect_period ≡ 0)
Divide periods.Collect common task = common % task.collect_period ≡ 0

-- these periods of all tasks do
abbrev pub AreDivisors : Periods → List TaskTimes → ℕ → Type 0
AreDivisors which tasks common = All (Divide which common) tasks

-- these periods of all tasks divide it, and no smaller number of slots
pub record IsLeastCommon (which : Periods) (tasks : List TaskTimes) (common : ℕ) : Type 0 where
  pub some : 1 ≤ common
  pub divided : AreDivisors which tasks common
  pub least : (fewer : ℕ) → 1 ≤ fewer → fewer < common → ¬ AreDivisors which tasks fewer

-- such a number, or none where none up to the last slot would do
abbrev pub FindsLeastCommon : Periods → List TaskTimes → Option ℕ → Type 0
FindsLeastCommon which tasks (Some common) = IsLeastCommon which tasks common
FindsLeastCommon which tasks None = (common : ℕ) → 1 ≤ common → common ≤ MAX_SLOT → ¬ AreDivisors which tasks common

-- a number from 1 to the last slot that is of a kind, and divides each number of that kind
pub record DividesAll (P : ℕ → Type 0) (m : ℕ) : Type 0 where
  pub some : 1 ≤ m
  pub few : m ≤ MAX_SLOT
  pub own : P m
  pub all : (n : ℕ) → P n → n % m ≡ 0

-- such a number, or none where none up to the last slot is of that kind
abbrev pub FindsDivisor : (ℕ → Type 0) → Option ℕ → Type 0
FindsDivisor P (Some m) = DividesAll P m
FindsDivisor P None = (n : ℕ) → 1 ≤ n → n ≤ MAX_SLOT → ¬ P n

-- the multiples of two numbers; of a number and the periods of a task; and of a number and the periods of tasks
abbrev pub IsMultiple : ℕ → ℕ → ℕ → Type 0
IsMultiple of period n = (n % of ≡ 0) × (n % period ≡ 0)

abbrev pub IsMultipleFor : Periods → ℕ → TaskTimes → ℕ → Type 0
IsMultipleFor which of task n = (n % of ≡ 0) × Divide which n task

abbrev pub IsCommonMultiple : Periods → ℕ → List TaskTimes → ℕ → Type 0
IsCommonMultiple which of tasks n = (n % of ≡ 0) × AreDivisors which tasks n

-- the multiples of a number and of all periods of times, if there are any
abbrev pub IsMultipleOfTimes : ℕ → Option Times → ℕ → Type 0
IsMultipleOfTimes of times n = (n % of ≡ 0) × IfSome times (λ times. AreDivisors periods.All times.tasks n)

-- the periods of all dies that have times divide it
abbrev pub AreCommon : PlanNumbers → ℕ → Type 0
AreCommon plan n = (die : ℕ) → die < plan.top.dies → IfSome (die_of plan die).times (λ times. AreDivisors periods.All times.tasks n)
