-- What a die is asked in a run, and what comes of it.
use Rattle.std.specs.Prelude.{◌≡◌, ℕ, zero, suc, ◌+◌, List, [], ◌∷◌, ◌++◌, map, Option, Some, None}
use Rattle.slot_types.specs.declared.plans.DiePlan.{DiePlan}
use Rattle.slot_types.specs.Arriving.{arrivals_by, arrivals_after}
use Rattle.slot_types.specs.declared.events.Event.{Event}
use Rattle.slot_types.specs.declared.events.Event.TheVariants as events
use Rattle.slot_types.specs.declared.refusals.Refusal.{Refusal}
use Rattle.die_log.specs.Model.Log.{Log, now}
use Rattle.die_log.specs.Model.Answers.{answer, IsAccepted, IsExact}
use Rattle.slot_core.specs.Calls.{RefusedBy}
use Rattle.slot_core.specs.Core.{with_entry}
use Rattle.script_texts.specs.declared.script_rows.ScriptItem.{ScriptItem}
use Rattle.task_script.specs.declared.run_counts.RowEnd.{RowEnd}
use Rattle.die_log.specs.Model.Start.{fresh}

-- Calls

-- what a die is asked: what a row says, or to carry out a slot
pub data ScriptCall : Type 0 where
  Row : (item : ScriptItem) → ScriptCall
  Slot : ScriptCall

-- the slot by which a row comes
abbrev pub row_slot : ScriptItem → ℕ
row_slot item = item.at

-- the calls of `left` slots from a slot on: before each slot the rows that come by then, and after the last one those
-- that are left
abbrev pub calls_from : ℕ → ℕ → List ScriptItem → List ScriptCall
calls_from slot zero items = map Row items
calls_from slot (suc left) items = map Row (arrivals_by row_slot slot items) ++ Slot ∷ calls_from (slot + 1) left (arrivals_after row_slot slot items)

abbrev pub calls_of : ℕ → List ScriptItem → List ScriptCall
calls_of slots items = calls_from 0 slots items

-- What comes of them

-- how far a die has come: its log, and what became of the rows
pub record DieRun : Type 0 where
  pub log : Log
  pub ends : List RowEnd

abbrev pub run_at : Log → List RowEnd → DieRun
run_at log ends = record { log = log; ends = ends }

abbrev pub fresh_run : DieRun
fresh_run = run_at [] []

-- the log accepts an event, and its answer is one more entry of caller 0
abbrev pub Accepts : DiePlan → Log → Event → Log → Type 0
Accepts plan past event log = IsAccepted (answer (fresh plan) past event) × (log ≡ with_entry 0 event (answer (fresh plan) past event) past)

-- a row's event was accepted; or it was refused, by the log's own answer or out of memory, and is no event
abbrev pub Ends : DiePlan → Log → Event → Option Refusal → Log → Type 0
Ends plan past event None log = Accepts plan past event log
Ends plan past event (Some refusal) log = RefusedBy (fresh plan) past event refusal × (log ≡ past)

-- the end of a row
abbrev pub end_of : ScriptItem → Option Refusal → RowEnd
end_of item refusal = record { line = item.line; refusal = refusal }

-- one call: a row ends, or the slot is carried out
abbrev pub IsCallStep : DiePlan → ScriptCall → DieRun → DieRun → Type 0
IsCallStep plan (Row item) before after =
    (refusal : Option Refusal) × Ends plan before.log item.event refusal after.log × (after.ends ≡ before.ends ++ end_of item refusal ∷ [])
IsCallStep plan Slot before after = Accepts plan before.log events.Slot after.log × (after.ends ≡ before.ends)

-- calls one after the other
abbrev pub MakesCalls : DiePlan → DieRun → List ScriptCall → DieRun → Type 0
MakesCalls plan before [] after = after ≡ before
MakesCalls plan before (call ∷ calls) after = (between : DieRun) × IsCallStep plan call before between × MakesCalls plan between calls after

-- a fresh die carried out all slots, each row came at its place, and the log is exact
pub record IsScriptRun (plan : DiePlan) (slots : ℕ) (items : List ScriptItem) (run : DieRun) : Type 0 where
  pub ran : MakesCalls plan fresh_run (calls_of slots items) run
  pub all_slots : now run.log ≡ slots
  pub exact : IsExact (fresh plan) run.log
