-- Rows that keep to their die's plan are not refused but out of memory, and nothing is late.
use Rattle.std.proofs.Common.{◌≡◌, ◌⊎◌, ℕ, zero, suc, ◌+◌, ◌<◌, ℤ, Bool, true, false, List, [], ◌∷◌, ◌++◌, map, length, Option, Some, None}
use Rattle.std.proofs.Common.{refl, ap, sym, subst, ◌∙◌, append_assoc, inl, inr, arith, slice_get}
use Rattle.std.specs.Prelude.{All, pos, ◌≤ℤ◌}
use Rattle.std.specs.Io.KnownBytes.{Appends}
use Rattle.std.specs.List.{AllByRecursion}
use Rattle.std.proofs.lemmas.List.{append-nil}
use Rattle.std.proofs.lemmas.List.Elements.{All-from_recursion, recursion_from_All}
use Rattle.slot_types.specs.Arrivals.{IsArrival}
use Rattle.slot_types.specs.declared.plans.DiePlan.{DiePlan}
use Rattle.slot_types.specs.declared.plans.Times.{Times}
use Rattle.slot_types.specs.declared.pages.PageData.{PageData}
use Rattle.slot_types.specs.declared.events.Event.{Event}
use Rattle.slot_types.specs.declared.events.Event.TheVariants as events
use Rattle.slot_types.specs.declared.refusals.Refusal.{Refusal}
use Rattle.slot_types.specs.declared.refusals.Refusal.TheVariants.{NoMemory}
use Rattle.slot_types.specs.declared.replies.Reply.{Reply}
use Rattle.slot_types.specs.declared.replies.Reply.TheVariants as replies
use Rattle.slot_types.specs.declared.replies.Waived.{Waived}
use Rattle.plan_rules.specs.Bound.{MeetsBound}
use Rattle.plan_rules.specs.Times.{Passes}
use Rattle.plan_rules.specs.Keeping.{KeepsPlan}
use Rattle.die_log.specs.Model.Log.{Log, jobs, work}
use Rattle.die_log.specs.Model.Work.{is_done}
use Rattle.die_log.specs.Model.Answers.{refusal_of, answer, IsAccepted, IsExact}
use Rattle.die_log.specs.Results.InTime.{events_of_log, AreEntered, IsInTime}
use Rattle.die_log.proofs.Legality.{accepted_answer}
use Rattle.die_log.proofs.Planned.InTime.{planned_in_time}
use Rattle.die_log.proofs.LogInvariants.OneMoreEntry.{contained}
use Rattle.die_log.proofs.Supply.Unrefused.{unrefused, entered}
use Rattle.slot_core.specs.Calls.{RefusedBy}
use Rattle.slot_core.specs.Core.{with_entry}
use Rattle.slot_core.specs.Outcomes.{outcome_by, head_of}
use Rattle.slot_types.specs.declared.events.JobHead.{JobHead}
use Rattle.script_texts.specs.Arrivals.{Arrives}
use Rattle.script_texts.specs.declared.script_rows.ScriptItem.{ScriptItem}
use Rattle.report_texts.specs.ReportText.{report_text}
use Rattle.report_texts.specs.TextSoFar.{TextSoFar}
use Rattle.task_script.specs.DieReports.{row_by, report_row_of}
use Rattle.task_script.specs.DieRuns.{ScriptCall, Row, Slot, DieRun, Accepts, Ends, IsScriptRun, MakesCalls, end_of, fresh_run}
use Rattle.task_script.specs.Feeds.{AllArrive, feed_of}
use Rattle.task_script.specs.PlannedRuns.{event_of, events_of_rows, RowsKeepPlan, IsOnTime, AreTakenUntilMemory, RowsGoAsPlanned, AreAsPlanned}
use Rattle.task_script.specs.PlannedRuns.{RunsAsPlanned}
use Rattle.task_script.specs.TextRuns.{AreRuns, RanScript, RunsText}
use Rattle.task_script.specs.declared.run_counts.RowEnd.{RowEnd}
use Rattle.task_script.specs.declared.run_counts.RunCount.{RunCount}
use Rattle.task_script.proofs.EachCall.{IsCallOf, each_call}
use Rattle.task_script.proofs.Gathering.{runs_text}
use Rattle.die_log.specs.Model.Start.{fresh}
use Rattle.die_log.proofs.Openings.{fresh_opens, fresh_stocked}

-- Logs

-- the event of an entry comes after those before it
reported_more : (past log : Log) (event : Event) (reply : Reply) (rest : List Event) → log ≡ with_entry 0 event reply past → events_of_log past ++ event
    ∷ rest ≡ events_of_log log ++ rest
reported_more past log event reply rest is = sym (append_assoc (events_of_log past) (event ∷ []) rest) ∙ ap (λ (l : Log). events_of_log l ++ rest) (sym is)

accepts_exact : (plan : DiePlan) (past log : Log) (event : Event) → Accepts plan past event log → IsExact (fresh plan) past → IsExact (fresh plan) log
accepts_exact plan past log event h exact = subst (IsExact (fresh plan)) (sym h.1) (exact, refl, h.0)

not_refused : (plan : DiePlan) (past : Log) (event : Event) (refusal : Refusal) → refusal_of (fresh plan) past event ≡ None → answer (fresh plan) past event
    ≡ replies.Refused refusal → ⊥
not_refused plan past event refusal none is = subst IsAccepted (sym (accepted_answer (fresh plan) past event none) ∙ is)
    (entered (fresh plan) past 0 event).0

-- Runs

-- what became of the calls stands after what became of those before them
ends_more : (plan : DiePlan) (before after : DieRun) (calls : List ScriptCall) → MakesCalls plan before calls after → (more : List RowEnd)
    × (after.ends ≡ before.ends ++ more)
ends_more plan before after [] h = ([], ap (λ (r : DieRun). r.ends) h ∙ sym (append-nil before.ends))
ends_more plan before after (Row item ∷ calls) h =
    let m = ends_more plan h.0 after calls h.2 in
    let e : RowEnd = end_of item h.1.0 in
    (e ∷ m.0, m.1 ∙ (ap (λ l. l ++ m.0) h.1.2 ∙ append_assoc before.ends (e ∷ []) m.0))
ends_more plan before after (Slot ∷ calls) h =
    let m = ends_more plan h.0 after calls h.2 in
    (m.0, m.1 ∙ ap (λ l. l ++ m.0) h.1.1)

module _ (plan : DiePlan) (times : Times) (bound : MeetsBound plan) (passes : Passes plan times) where
  -- a row that keeps the plan is refused out of memory alone
  by_memory : (past : Log) (event : Event) (rest : List Event) (refusal : Refusal) → IsExact (fresh plan) past
      → KeepsPlan plan times (events_of_log past ++ event ∷ rest) → RefusedBy (fresh plan) past event refusal → refusal ≡ NoMemory
  by_memory past event rest refusal exact keeps (inl own) = absurd
      (not_refused plan past event refusal (unrefused (fresh plan) times (fresh_opens plan bound) passes (fresh_stocked plan times) past event rest exact keeps) own)
  by_memory past event rest refusal exact keeps (inr memory) = memory.1

  -- what became of the calls that are left
  abbrev TakenAfter : List RowEnd → List RowEnd → Type 0
  TakenAfter before after = (more : List RowEnd) × (after ≡ before ++ more) × AreTakenUntilMemory more

  taken_from : (before after : DieRun) (calls : List ScriptCall) → IsExact (fresh plan) before.log
      → KeepsPlan plan times (events_of_log before.log ++ map event_of calls) → MakesCalls plan before calls after → TakenAfter before.ends after.ends
  taken_from before after [] exact keeps h = ([], ap (λ (r : DieRun). r.ends) h ∙ sym (append-nil before.ends), tt)
  taken_from before after (Slot ∷ calls) exact keeps h =
      let m = taken_from h.0 after calls (accepts_exact plan before.log h.0.log events.Slot h.1.0 exact)
      (subst (KeepsPlan plan times) (reported_more before.log h.0.log events.Slot (answer (fresh plan) before.log events.Slot) (map event_of calls)
      h.1.0.1) keeps) h.2 in
      (m.0, m.1 ∙ ap (λ l. l ++ m.0) h.1.1, m.2)
  taken_from before after (Row item ∷ calls) exact keeps h = by_end (λ e k. taken_from h.0 after calls e k h.2) h.1.0 h.1.1 h.1.2
    where
      by_end : (IsExact (fresh plan) h.0.log → KeepsPlan plan times (events_of_log h.0.log ++ map event_of calls) → TakenAfter h.0.ends after.ends)
          → (refusal : Option Refusal) → Ends plan before.log item.event refusal h.0.log → h.0.ends ≡ before.ends ++ end_of item refusal
          ∷ [] → TakenAfter before.ends after.ends
      by_end rest None taken ends =
          let m = rest (accepts_exact plan before.log h.0.log item.event taken exact)
          (subst (KeepsPlan plan times) (reported_more before.log h.0.log item.event (answer (fresh plan) before.log item.event) (map event_of calls)
          taken.1) keeps) in
          let e : RowEnd = end_of item None in
          (e ∷ m.0, m.1 ∙ (ap (λ l. l ++ m.0) ends ∙ append_assoc before.ends (e ∷ []) m.0), inl (refl, m.2))
      by_end rest (Some refusal) refused ends =
          let m = ends_more plan h.0 after calls h.2 in
          let e : RowEnd = end_of item (Some refusal) in (
            e ∷ m.0,
            m.1 ∙ (ap (λ l. l ++ m.0) ends ∙ append_assoc before.ends (e ∷ []) m.0),
            inr
                (ap Some (by_memory before.log item.event (map event_of calls) refusal exact keeps refused.0)),
          )

-- the log of a run is what its events leave
entered_from : (plan : DiePlan) (before after : DieRun) (calls : List ScriptCall) → AllByRecursion (IsCallOf (λ item. IsArrival item.event)) calls
    → MakesCalls plan before calls after → AreEntered (map event_of calls) before.log after.log
entered_from plan before after [] arrive h = ap (λ (r : DieRun). r.log) h
entered_from plan before after (Slot ∷ calls) arrive h =
    (h.0.log, inl (0, answer (fresh plan) before.log events.Slot, h.1.0.1), entered_from plan h.0 after calls arrive.1 h.2)
entered_from plan before after (Row item ∷ calls) arrive h = (h.0.log, by_end h.1.0 h.1.1, entered_from plan h.0 after calls arrive.1 h.2)
  where
    by_end : (refusal : Option Refusal) → Ends plan before.log item.event refusal h.0.log
        → ((caller : ℕ) × (reply : Reply) × (h.0.log ≡ record { caller = caller; event = item.event; reply = reply } ∷ before.log))
        ⊎ (IsArrival item.event × (h.0.log ≡ before.log))
    by_end None taken = inl (0, answer (fresh plan) before.log item.event, taken.1)
    by_end (Some refusal) refused = inr (arrive.0, refused.1)

-- Rows of reports

row_on_time : (number : ℕ) (head : JobHead) (took : ℕ) (waiver : Option Waived) (done : Bool) (completion : ℕ) (lateness : ℤ) (given : ℕ)
    (reads : List PageData)
    → (done ≡ true → lateness ≤ℤ pos 0) → IsOnTime (row_by number head took (outcome_by waiver done completion lateness given reads))
row_on_time number head took (Some w) done completion lateness given reads h = tt
row_on_time number head took None true completion lateness given reads h = h refl
row_on_time number head took None false completion lateness given reads h = tt

each_mapped : {X Y : Type 0} (P : Y → Type 0) (f : X → Y) (xs : List X) → ((k : ℕ) (x : X) → slice_get xs k ≡ Some x → P (f x))
    → AllByRecursion P (map f xs)
each_mapped P f [] h = tt
each_mapped P f (x ∷ xs) h = (h zero x refl, each_mapped P f xs (λ k y e. h (suc k) y e))

rows_on_time : (plan : DiePlan) (log : Log) → IsInTime plan log → All IsOnTime (map (report_row_of (fresh plan) log) (jobs log))
rows_on_time plan log in_time =
    All-from_recursion IsOnTime (map (report_row_of (fresh plan) log) (jobs log)) (each_mapped IsOnTime (report_row_of (fresh plan) log) (jobs log)
    (λ k j e. row_on_time j.number (head_of j) (work j.number log) _ (is_done plan log j) _ _ _ _
    (λ done. in_time.never_late j (contained (jobs log) k j e) done)))

-- All together

pub as_planned : (plan : DiePlan) (slots : ℕ) (items : List ScriptItem) (run : DieRun) → MeetsBound plan → AllArrive slots items
    → RowsKeepPlan plan slots items → IsScriptRun plan slots items run → RowsGoAsPlanned plan run
as_planned plan slots items run bound arrive k is =
    let asked = each_call (λ item. IsArrival item.event) 0 slots items (all_events items (recursion_from_All (Arrives slots) items arrive))
    in
    let in_time = planned_in_time (fresh plan) k.times (fresh_opens plan bound) k.passes (events_of_rows slots items) k.keeps [] run.log is.exact
    (entered_from plan fresh_run run _ asked is.ran) in
    let taken = taken_from plan k.times bound k.passes fresh_run run _ tt k.keeps is.ran in
    record {
      in_time = in_time;
      on_time = rows_on_time plan run.log in_time;
      taken = subst AreTakenUntilMemory (sym taken.1) taken.2;
    }
  where
    all_events : (rows : List ScriptItem) → AllByRecursion (Arrives slots) rows → AllByRecursion (λ item. IsArrival item.event) rows
    all_events [] h = tt
    all_events (row ∷ rows) h = (h.0.1, all_events rows h.1)

-- by die
pub all_as_planned : (slots : ℕ) (feed : ℕ → List ScriptItem) (die : ℕ) (plans : List DiePlan) (runs : List DieRun)
    → ((d : ℕ) → d < die + length plans → AllArrive slots (feed d)) → AllByRecursion MeetsBound plans
    → AreRuns slots feed die plans runs → AreAsPlanned slots feed die plans runs
all_as_planned slots feed die [] [] arrive bound h = tt
all_as_planned slots feed die [] (run ∷ runs) arrive bound h = absurd h
all_as_planned slots feed die (plan ∷ plans) [] arrive bound h = absurd h
all_as_planned slots feed die (plan ∷ plans) (run ∷ runs) arrive bound h = (
  λ k. as_planned plan slots (feed die) run bound.0 (arrive die (omega arith)) k h.0,
  all_as_planned slots feed (die + 1) plans runs (λ d below. arrive d (omega (arith, below))) bound.1 h.1,
)

-- what is written of a run of a script
pub runs_as_planned : (text : Option (List ℕ)) (plans : List DiePlan) (slots : ℕ) (said : List TextSoFar) (count : RunCount)
    (old new : Option (List ℕ)) → All MeetsBound plans → (r : RanScript text plans slots said count)
    → Appends old new (report_text r.report) → RunsAsPlanned text plans slots count old new
unfolding runs_text
runs_as_planned text plans slots said count old new bound r written =
    let ran : RunsText text plans slots count old new = runs_text text plans slots said count old new r written in
    record {
      ran = ran;
      planned = all_as_planned slots (feed_of r.items) 0 plans r.ran.runs
          (λ d below. r.in_time.arrive d (omega (arith, below)))
          (recursion_from_All MeetsBound plans bound) ran.ran;
    }
