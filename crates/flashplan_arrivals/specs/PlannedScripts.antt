-- Scripts that keep the plans of a store.
use Rattle.std.specs.Prelude.{◌≡◌, ◌⊎◌, ℕ, List, All, length, slice_get, Option, IfSome, IsSomeAnd, Ok, ⊤}
use Rattle.slot_types.specs.declared.events.Event.{Event}
use Rattle.slot_types.specs.declared.plans.DiePlan.{DiePlan}
use Rattle.slot_types.specs.declared.plans.Times.{Times}
use Rattle.slot_types.specs.declared.refusals.Refusal.TheVariants.{NoMemory, BadPlan}
use Rattle.plan_rules.specs.Times.{Passes}
use Rattle.plan_rules.specs.Keeping.{KeepsPlan}
use Rattle.script_texts.specs.Script.{script_of}
use Rattle.script_texts.specs.declared.script_rows.ScriptItem.{ScriptItem}
use Rattle.task_script.specs.Feeds.{AreItemsOf, feed_of}
use Rattle.task_script.specs.PlannedRuns.{RowsKeepPlan, events_of_rows}
use Rattle.flashplan_arrivals.specs.declared.faults.Fault.{Fault}
use Rattle.flashplan_arrivals.specs.declared.faults.Fault.TheVariants.{Refused}

-- a plan has times that pass their test
abbrev pub HasPassed : DiePlan → Type 0
HasPassed plan = IsSomeAnd plan.times (Passes plan)

-- the text is a script for the dies of a store and `slots` slots, and the rows of each die keep its plan, with times
-- that pass their test
pub record IsPlannedScript (plans : List DiePlan) (slots : ℕ) (text : List ℕ) : Type 0 where
  pub items : List ScriptItem
  pub said : script_of (length plans) slots text ≡ Ok items
  pub kept : (die : ℕ) → IfSome (slice_get plans die) (λ plan. RowsKeepPlan plan slots (feed_of items die))

-- why no script is made: memory ran out; or a plan has no times, or they don't pass their test; else all of them do
abbrev pub IsUnplanned : List DiePlan → Fault → Type 0
IsUnplanned plans (Refused refusal) = (refusal ≡ NoMemory) ⊎ ((refusal ≡ BadPlan) × ¬ All HasPassed plans)
IsUnplanned plans _ = All HasPassed plans

-- While a script is made

-- it is no refusal but out of memory
abbrev pub IsOwnFault : Fault → Type 0
IsOwnFault (Refused refusal) = refusal ≡ NoMemory
IsOwnFault _ = ⊤

-- the events of a run of `slots` slots on a die, by its rows in a script
abbrev pub AreEventsOf : Option (List ℕ) → ℕ → ℕ → ℕ → List Event → Type 0
AreEventsOf text dies slots die events = (items : List ScriptItem) × AreItemsOf text dies slots items
    × (events ≡ events_of_rows slots (feed_of items die))

-- events keep a plan, with times that pass their test
pub record AreKept (plan : DiePlan) (events : List Event) : Type 0 where
  pub times : Times
  pub passes : Passes plan times
  pub keeps : KeepsPlan plan times events
