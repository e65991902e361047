-- The jobs of a run are asked to write what its rows say.
use Rattle.std.proofs.Common.{ℕ, ◌+◌, ◌<◌, length, arith, List, [], ◌∷◌, Option, Some, None, sym, subst}
use Rattle.std.specs.Prelude.{All}
use Rattle.std.specs.List.{AllByRecursion}
use Rattle.std.proofs.lemmas.List.Elements.{All-from_recursion, recursion_from_All}
use Rattle.plan_rules.specs.Bound.{MeetsBound}
use Rattle.slot_types.specs.declared.plans.DiePlan.{DiePlan}
use Rattle.slot_types.specs.declared.events.Event.{Event}
use Rattle.slot_types.specs.declared.refusals.Refusal.{Refusal}
use Rattle.die_log.specs.Model.Log.{Log}
use Rattle.script_texts.specs.AskedPages.{AsksPages, RowHasPages, RowsHavePages}
use Rattle.script_texts.specs.declared.script_rows.ScriptItem.{ScriptItem}
use Rattle.task_script.specs.LogPages.{EntryHasPages, HasPages}
use Rattle.task_script.specs.DieRuns.{ScriptCall, Row, Slot, DieRun, Ends, IsScriptRun, IsCallStep, MakesCalls, fresh_run}
use Rattle.task_script.specs.ExactRuns.{AreExact}
use Rattle.task_script.specs.TextRuns.{AreRuns}
use Rattle.task_script.proofs.EachCall.{IsCallOf, each_call}
use Rattle.task_script.proofs.ExactPages.{AreAsked}

abbrev CallHasPages : ScriptCall → Type 0
CallHasPages = IsCallOf RowHasPages

-- Runs

end_asked : (plan : DiePlan) (past log : Log) (event : Event) (refusal : Option Refusal) → Ends plan past event refusal log
    → AsksPages event → AreAsked past → AreAsked log
end_asked plan past log event None h page asked = subst AreAsked (sym h.1) (page, asked)
end_asked plan past log event (Some refusal) h page asked = subst AreAsked (sym h.1) asked

step_asked : (plan : DiePlan) (call : ScriptCall) (before after : DieRun) → IsCallStep plan call before after → CallHasPages call
    → AreAsked before.log → AreAsked after.log
step_asked plan (Row item) before after h page asked = end_asked plan before.log after.log item.event h.0 h.1 page asked
step_asked plan Slot before after h page asked = subst AreAsked (sym h.0.1) (tt, asked)

run_asked : (plan : DiePlan) (before after : DieRun) (calls : List ScriptCall) → MakesCalls plan before calls after → AllByRecursion CallHasPages calls
    → AreAsked before.log → AreAsked after.log
run_asked plan before after [] h pages asked = subst (λ (run : DieRun). AreAsked run.log) (sym h) asked
run_asked plan before after (call ∷ calls) h pages asked = run_asked plan h.0 after calls h.2 pages.1
    (step_asked plan call before h.0 h.1 pages.0 asked)

die_asked : (plan : DiePlan) (slots : ℕ) (items : List ScriptItem) (run : DieRun) → RowsHavePages items → IsScriptRun plan slots items run
    → HasPages run.log
die_asked plan slots items run pages h =
    All-from_recursion EntryHasPages run.log (run_asked plan fresh_run run _ h.ran
    (each_call RowHasPages 0 slots items (recursion_from_All RowHasPages items pages)) tt)

runs_exact : (slots : ℕ) (feed : ℕ → List ScriptItem) (die : ℕ) (plans : List DiePlan) (runs : List DieRun)
    → ((d : ℕ) → d < die + length plans → RowsHavePages (feed d)) → AllByRecursion MeetsBound plans → AreRuns slots feed die plans runs
    → AreExact plans runs
runs_exact slots feed die [] [] pages bound h = tt
runs_exact slots feed die [] (run ∷ runs) pages bound h = absurd h
runs_exact slots feed die (plan ∷ plans) [] pages bound h = absurd h
runs_exact slots feed die (plan ∷ plans) (run ∷ runs) pages bound h = (
  bound.0,
  h.0.exact,
  die_asked plan slots (feed die) run (pages die (omega arith)) h.0,
  runs_exact slots feed (die + 1) plans runs
      (λ d below. pages d (omega (arith, below))) bound.1 h.1,
)

pub runs_are_exact : (slots : ℕ) (feed : ℕ → List ScriptItem) (plans : List DiePlan) (runs : List DieRun)
    → ((d : ℕ) → d < length plans → RowsHavePages (feed d)) → All MeetsBound plans → AreRuns slots feed 0 plans runs → AreExact plans runs
runs_are_exact slots feed plans runs pages bound h = runs_exact slots feed 0 plans runs (λ d below. pages d (omega (arith, below)))
    (recursion_from_All MeetsBound plans bound) h
