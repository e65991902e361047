-- What is left of a run.
use Rattle.std.specs.Prelude.{ℕ, ◌-◌, List, map}
use Rattle.slot_types.specs.declared.events.Event.{Event}
use Rattle.script_texts.specs.declared.script_rows.ScriptItem.{ScriptItem}
use Rattle.task_script.specs.DieRuns.{calls_from}
use Rattle.task_script.specs.PlannedRuns.{event_of}

-- the events of a run of `slots` slots from slot `now` on, with these rows left
abbrev pub later_events : ℕ → ℕ → List ScriptItem → List Event
later_events slots now rows = map event_of (calls_from now (slots - now) rows)
