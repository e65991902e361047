-- What a run promises of rows that keep to their die's plan with times.
use Rattle.std.specs.Prelude.{◌≡◌, ⊤, ◌⊎◌, ℕ, ◌+◌, pos, ◌≤ℤ◌, List, [], ◌∷◌, map, All, Option, Some, None, IfSome}
use Rattle.slot_types.specs.declared.events.Event.{Event}
use Rattle.slot_types.specs.declared.events.Event.TheVariants as events
use Rattle.slot_types.specs.declared.plans.DiePlan.{DiePlan}
use Rattle.slot_types.specs.declared.plans.Times.{Times}
use Rattle.slot_types.specs.declared.refusals.Refusal.TheVariants.{NoMemory}
use Rattle.plan_rules.specs.Times.{Passes}
use Rattle.plan_rules.specs.Keeping.{KeepsPlan}
use Rattle.die_log.specs.Results.InTime.{IsInTime}
use Rattle.script_texts.specs.declared.script_rows.ScriptItem.{ScriptItem}
use Rattle.report_texts.specs.declared.reports.ReportRow.{ReportRow}
use Rattle.task_script.specs.DieReports.{report_rows_of}
use Rattle.task_script.specs.DieRuns.{ScriptCall, Row, Slot, DieRun, calls_of}
use Rattle.task_script.specs.Feeds.{feed_of}
use Rattle.task_script.specs.TextRuns.{RunsText}
use Rattle.task_script.specs.declared.run_counts.RowEnd.{RowEnd}
use Rattle.task_script.specs.declared.run_counts.RunCount.{RunCount}
use Rattle.die_log.specs.Model.Start.{fresh}

-- the event of a call
abbrev pub event_of : ScriptCall → Event
event_of (Row item) = item.event
event_of Slot = events.Slot

-- the events of a run of `slots` slots with these rows, in their order
abbrev pub events_of_rows : ℕ → List ScriptItem → List Event
events_of_rows slots items = map event_of (calls_of slots items)

-- the rows of a die keep its plan, with times that pass their test
pub record RowsKeepPlan (plan : DiePlan) (slots : ℕ) (items : List ScriptItem) : Type 0 where
  pub times : Times
  pub passes : Passes plan times
  pub keeps : KeepsPlan plan times (events_of_rows slots items)

-- a row of a report has no lateness above 0
abbrev pub IsOnTime : ReportRow → Type 0
IsOnTime row = IfSome row.lateness (λ lateness. lateness ≤ℤ pos 0)

-- none of these rows was refused, up to one out of memory, after which nothing is said
abbrev pub AreTakenUntilMemory : List RowEnd → Type 0
AreTakenUntilMemory [] = ⊤
AreTakenUntilMemory (end ∷ ends) = ((end.refusal ≡ None) × AreTakenUntilMemory ends) ⊎ (end.refusal ≡ Some NoMemory)

-- what a die did is in time, so no row of its report is late, and no row was refused but out of memory, or after one
-- that was
pub record RowsGoAsPlanned (plan : DiePlan) (run : DieRun) : Type 0 where
  pub in_time : IsInTime plan run.log
  pub on_time : All IsOnTime (report_rows_of (fresh plan) run.log)
  pub taken : AreTakenUntilMemory run.ends

-- by die, from this number on: where its rows keep its plan, its run goes as planned
abbrev pub AreAsPlanned : ℕ → (ℕ → List ScriptItem) → ℕ → List DiePlan → List DieRun → Type 0
AreAsPlanned slots feed die [] [] = ⊤
AreAsPlanned slots feed die (plan ∷ plans) (run ∷ runs) =
    (RowsKeepPlan plan slots (feed die) → RowsGoAsPlanned plan run) × AreAsPlanned slots feed (die + 1) plans runs
AreAsPlanned slots feed die _ _ = ⊥

-- each die of the store ran its rows of the script, and those whose rows keep their plan went as planned
pub record RunsAsPlanned (text : Option (List ℕ)) (plans : List DiePlan) (slots : ℕ) (count : RunCount) (old new : Option (List ℕ)) : Type 0
  where
    pub ran : RunsText text plans slots count old new
    pub planned : AreAsPlanned slots (feed_of ran.items) 0 plans ran.runs

-- so it is, whatever the count
abbrev pub RunsSo : Option (List ℕ) → List DiePlan → ℕ → Option (List ℕ) → Option (List ℕ) → Type 0
RunsSo text plans slots old new = (count : RunCount) × RunsAsPlanned text plans slots count old new
