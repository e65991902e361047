-- The plan of a die with one number changed, and which numbers of a range would do.
use Rattle.std.specs.Prelude.{◌≡◌, ℕ, ◌%◌, ◌<◌, ◌≤◌, ◌⊎◌, ⊤, length, Option, Some, None, option_map, slice_set}
use Rattle.slot_types.specs.declared.limits.TheConstants.{MAX_SLOT}
use Rattle.slot_types.specs.declared.plans.DiePlan.{DiePlan}
use Rattle.slot_types.specs.declared.plans.TaskTimes.{TaskTimes}
use Rattle.slot_types.specs.declared.plans.Times.{Times}
use Rattle.plan_rules.specs.Times.{times_of}
use Rattle.plan_texts.specs.Stores.{IsUsable}
use Rattle.flashplan_design.specs.Commons.{AreDivisors}
use Rattle.flashplan_design.specs.declared.commons.Periods.TheVariants as periods
use Rattle.flashplan_design.specs.declared.numbers.Number.{Number}
use Rattle.flashplan_design.specs.declared.numbers.Number.TheVariants as number

-- the times with those of a task changed
abbrev pub with_own : Times → ℕ → TaskTimes → Times
with_own times task own = record times { tasks = slice_set times.tasks task own }

-- the times with one of their numbers changed
abbrev pub times_with : Number → ℕ → Times → Times
times_with number.Blocks n times = times
times_with number.Logical n times = times
times_with number.Alpha n times = times
times_with number.Common n times = record times { common = n }
times_with (number.Cap task) n times = times
times_with (number.Period task) n times = with_own times task (record (times_of times task) { period = n })
times_with (number.CollectPeriod task) n times = with_own times task (record (times_of times task) { collect_period = n })
times_with (number.Work task) n times = with_own times task (record (times_of times task) { work = n })
times_with (number.Writes task) n times = with_own times task (record (times_of times task) { writes = n })

-- the plan with one of its numbers changed
abbrev pub with_number : Number → DiePlan → ℕ → DiePlan
with_number number.Blocks plan n = record plan { shape = record plan.shape { blocks = n } }
with_number number.Logical plan n = record plan { logical = n }
with_number number.Alpha plan n = record plan { alpha = n }
with_number (number.Cap task) plan n = record plan { caps = slice_set plan.caps task n }
with_number number.Common plan n = record plan { times = option_map (times_with number.Common n) plan.times }
with_number (number.Period task) plan n = record plan { times = option_map (times_with (number.Period task) n) plan.times }
with_number (number.CollectPeriod task) plan n = record plan { times = option_map (times_with (number.CollectPeriod task) n) plan.times }
with_number (number.Work task) plan n = record plan { times = option_map (times_with (number.Work task) n) plan.times }
with_number (number.Writes task) plan n = record plan { times = option_map (times_with (number.Writes task) n) plan.times }

-- with this number the die meets its bound, and passes the test of its times if it has any
abbrev pub DieDoes : Number → DiePlan → ℕ → Type 0
DieDoes which plan n = IsUsable (with_number which plan n)

-- a number of this kind from `from` to `to`, and no smaller one from `from` on is
pub record IsLeast (P : ℕ → Type 0) (from to n : ℕ) : Type 0 where
  pub above : from ≤ n
  pub below : n ≤ to
  pub does : P n
  pub least : (fewer : ℕ) → from ≤ fewer → fewer < n → ¬ P fewer

-- a number of this kind from `from` to `to`, and no greater one up to `to` is
pub record IsGreatest (P : ℕ → Type 0) (from to n : ℕ) : Type 0 where
  pub above : from ≤ n
  pub below : n ≤ to
  pub does : P n
  pub greatest : (more : ℕ) → n < more → more ≤ to → ¬ P more

-- no number from `from` to `to` is of this kind
abbrev pub NoneDoes : (ℕ → Type 0) → ℕ → ℕ → Type 0
NoneDoes P from to = (n : ℕ) → from ≤ n → n ≤ to → ¬ P n

-- the least such number, if there is one
abbrev pub FindsLeast : (ℕ → Type 0) → ℕ → ℕ → Option ℕ → Type 0
FindsLeast P from to (Some n) = IsLeast P from to n
FindsLeast P from to None = NoneDoes P from to

-- the greatest such number, if there is one
abbrev pub FindsGreatest : (ℕ → Type 0) → ℕ → ℕ → Option ℕ → Type 0
FindsGreatest P from to (Some n) = IsGreatest P from to n
FindsGreatest P from to None = NoneDoes P from to

-- two plans that differ in this number alone
abbrev pub IsAlike : Number → DiePlan → DiePlan → Type 0
IsAlike which one other = (n : ℕ) → with_number which one n ≡ with_number which other n

-- each number with which the die would do divides `common`, which is a number of slots that a run may have
pub record OnlyDivisorsDo (which : Number) (plan : DiePlan) (common : ℕ) : Type 0 where
  pub some : 1 ≤ common
  pub few : common ≤ MAX_SLOT
  pub divides : (n : ℕ) → DieDoes which plan n → common % n ≡ 0

-- what has to be of a number of times, whatever the rest of the plan: a period of a task divides the hyperperiod
abbrev pub MayBe : Number → Times → ℕ → Type 0
MayBe number.Blocks times n = ⊤
MayBe number.Logical times n = ⊤
MayBe number.Alpha times n = ⊤
MayBe number.Common times n = AreDivisors periods.All times.tasks n
MayBe (number.Cap task) times n = ⊤
MayBe (number.Period task) times n = (length times.tasks ≤ task) ⊎ (times.common % n ≡ 0)
MayBe (number.CollectPeriod task) times n = (length times.tasks ≤ task) ⊎ (times.common % n ≡ 0)
MayBe (number.Work task) times n = ⊤
MayBe (number.Writes task) times n = ⊤
