-- A die with another alpha, and the caps and collect periods that go with it.
use Rattle.std.specs.Prelude.{◌≡◌, ◌↔◌, ℕ, ◌+◌, ◌*◌, ◌%◌, ◌≤◌, List, [], ◌∷◌, ◌++◌, map, flat_map, codes, decimal, Bool, true, false, IsTrue, IsSomeAnd}
use Rattle.std.specs.Prelude.{Option, Some, None}
use Rattle.std.specs.List.{AllZip}
use Rattle.slot_types.specs.declared.plans.DiePlan.{DiePlan}
use Rattle.slot_types.specs.declared.plans.TaskTimes.{TaskTimes}
use Rattle.slot_types.specs.declared.plans.Times.{Times}
use Rattle.plan_rules.specs.Times.{PassesItsTimes, demand}
use Rattle.plan_texts.specs.Stores.{IsUsable, die_of}
use Rattle.plan_texts.specs.declared.numbers.PlanNumbers.{PlanNumbers}
use Rattle.flashplan_slot_times.specs.Times.{slots_text}
use Rattle.flashplan_design.specs.Findings.{taken_text}
use Rattle.flashplan_design.specs.Numbers.{IsGreatest}
use Rattle.flashplan_design.specs.Trials.{IsGreatestLogical}
use Rattle.flashplan_design.specs.declared.alphas.AlphaRow.{AlphaRow}

-- a collect period that divides the hyperperiod, and with which a task's collections give back what its jobs write
abbrev pub GivesBack : (alpha common : ℕ) → TaskTimes → ℕ → Type 0
GivesBack alpha common t n = (common % n ≡ 0) × (t.writes * n ≤ alpha * t.period)

-- the times of a task with the longest such collect period
pub record IsSlowed (alpha common : ℕ) (t slowed : TaskTimes) : Type 0 where
  pub longest : IsGreatest (GivesBack alpha common t) 1 common slowed.collect_period
  pub alike : slowed ≡ record t { collect_period = slowed.collect_period }

-- the least cap, which covers two jobs and two collections
abbrev pub least_cap : ℕ → TaskTimes → ℕ
least_cap alpha t = 2 * t.writes + 2 * alpha

-- a die with this alpha, the least caps and the longest collect periods, and all else as it is
pub record GoesAlong (plan : DiePlan) (alpha : ℕ) (made : DiePlan) : Type 0 where
  pub times : Times
  pub timed : plan.times ≡ Some times
  pub tasks : List TaskTimes
  pub slowed : AllZip (IsSlowed alpha times.common) times.tasks tasks
  pub is : made ≡ record plan { alpha = alpha; caps = map (least_cap alpha) times.tasks; times = Some (record times { tasks = tasks }) }

-- such a die passes the test of its times; what is then taken of it, the greatest number of logical pages that its bound
-- allows, and whether it would do with its own
pub record IsRow (plan : PlanNumbers) (r : AlphaRow) : Type 0 where
  pub some : 1 ≤ r.plan.alpha
  pub few : r.plan.alpha ≤ plan.top.pages
  pub along : GoesAlong (die_of plan r.die) r.plan.alpha r.plan
  pub passes : PassesItsTimes r.plan
  pub demand : IsSomeAnd r.plan.times (λ times. r.taken.demand ≡ demand r.plan times)
  pub common : IsSomeAnd r.plan.times (λ times. r.taken.common ≡ times.common)
  pub logical : IsGreatestLogical r.plan r.logical
  pub does : IsTrue r.does ↔ IsUsable r.plan

-- numbers in a line, and numbers of slots
abbrev pub numbers_text : List ℕ → List ℕ
numbers_text ns = flat_map (λ n. codes " " ++ decimal n) ns

abbrev pub periods_text : Option ℕ → List TaskTimes → List ℕ
periods_text us tasks = flat_map (λ (t : TaskTimes). codes " " ++ slots_text us t.collect_period) tasks

abbrev pub times_text : Option ℕ → Option Times → List ℕ
times_text us (Some times) = periods_text us times.tasks
times_text us None = []

abbrev pub caps_text : DiePlan → List ℕ
caps_text plan = codes "with alpha " ++ decimal plan.alpha ++ codes ", caps" ++ numbers_text plan.caps

abbrev pub slow_text : Option ℕ → DiePlan → List ℕ
slow_text us plan = codes " and collect_periods" ++ times_text us plan.times

-- the greatest number of logical pages, and whether the die would do so
abbrev pub logical_text : ℕ → List ℕ
logical_text logical = codes ", and the greatest logical is " ++ decimal logical

abbrev pub does_text : Bool → List ℕ
does_text true = codes ": it would do.\n"
does_text false = codes ", which is less than it has.\n"

-- what an alpha comes to
abbrev pub found_text : Option ℕ → AlphaRow → List ℕ
found_text us r = (codes ", " ++ taken_text us r.taken) ++ (logical_text r.logical ++ does_text r.does)

-- how a row is said, a line
abbrev pub row_line : Option ℕ → AlphaRow → List ℕ
row_line us r =
    codes "die " ++ decimal r.die ++ codes ": " ++ (caps_text r.plan ++ slow_text us r.plan) ++ found_text us r

-- all rows
abbrev pub rows_text : Option ℕ → List AlphaRow → List ℕ
rows_text us rows = flat_map (row_line us) rows
