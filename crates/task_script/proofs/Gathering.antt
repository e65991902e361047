-- How the runs of dies are gathered.
use Rattle.std.proofs.Common.{◌≡◌, ℕ, suc, ◌+◌, ◌<◌, ◌≤◌, Bool, true, false, List, [], ◌∷◌, ◌++◌, refl, ap, sym, ◌∙◌}
use Rattle.std.proofs.Common.{subst, length, map}
use Rattle.std.proofs.Common.{append_assoc, arith, ◌==◌, Option, None, Some}
use Rattle.std.specs.Prelude.{⊤}
use Rattle.std.specs.Io.KnownBytes.{Appends}
use Rattle.std.specs.List.{AllByRecursion, AllZip}
use Rattle.std.proofs.lemmas.List.{append-nil}
use Rattle.std.proofs.lemmas.List.Elements.{recursion_from_All}
use Rattle.slot_types.specs.declared.plans.DiePlan.{DiePlan}
use Rattle.slot_types.specs.declared.refusals.Refusal.{Refusal}
use Rattle.slot_core.specs.Core.{Core}
use Rattle.die_log.specs.Model.Answers.{IsExact}
use Rattle.report_texts.specs.ReportText.{report_text}
use Rattle.script_texts.specs.Arrivals.{Arrives}
use Rattle.script_texts.specs.declared.script_rows.ScriptItem.{ScriptItem}
use Rattle.report_texts.specs.TextSoFar.{TextSoFar, die_added, joined_text, text_so_far}
use Rattle.report_texts.proofs.TextParts.{text_more}
use Rattle.report_texts.specs.declared.reports.DieReport.{DieReport}
use Rattle.task_script.proofs.Counting.{counts_join}
use Rattle.task_script.proofs.Parting.{adds_nothing, no_cert, no_rows, parts_text}
use Rattle.task_script.specs.DieReports.{die_report_of}
use Rattle.task_script.specs.DieRuns.{ScriptCall, Row, Slot, DieRun, Ends, IsScriptRun, MakesCalls, calls_of, fresh_run, run_at}
use Rattle.task_script.specs.Feeds.{AreInTime, AreItemsOf, feed_of}
use Rattle.task_script.specs.RanScripts.{AreReported, joined_after}
use Rattle.task_script.specs.RowDies.{HasCome, core_of, latest_slot}
use Rattle.task_script.specs.RunCounts.{count_of, sum_of_counts}
use Rattle.task_script.specs.TextRuns.{AreRuns, RanScript, RunsText, ends_of, reports_from, with_rows}
use Rattle.task_script.specs.StoreRuns.{reports_of}
use Rattle.task_script.specs.declared.row_dies.RowDie.{RowDie}
use Rattle.task_script.specs.declared.run_counts.RowEnd.{RowEnd}
use Rattle.task_script.specs.declared.run_counts.RunCount.{RunCount}
use Rattle.die_log.specs.Model.Start.{Start, fresh}

-- Two lists, one after another

pub zip_append : {A B : Type 0} (R : A → B → Type 0) (us vs : List A) (xs ys : List B) → AllZip R us xs → AllZip R vs ys
    → AllZip R (us ++ vs) (xs ++ ys)
zip_append R [] vs [] ys first second = second
zip_append R [] vs (x ∷ xs) ys first second = absurd first
zip_append R (u ∷ us) vs [] ys first second = absurd first
zip_append R (u ∷ us) vs (x ∷ xs) ys first second = (first.0, zip_append R us vs xs ys first.1 second)

-- Texts

-- a text is that of some reports, which the reports of the dies that are left make all
abbrev pub IsReportedOf : TextSoFar → List DieReport → List DieReport → Type 0
IsReportedOf text left all = (done : List DieReport) × (text ≡ text_so_far done) × (done ++ left ≡ all)

-- the lines of one die more
pub reported_more : {N : Type 0} (die : ℕ) (core : Core N) (dies : List (Core N)) (old new : TextSoFar) (all : List DieReport)
    → new ≡ die_added (die_report_of core.start core.log die) old → IsReportedOf old (reports_of die (core ∷ dies)) all
    → IsReportedOf new (reports_of (die + 1) dies) all
reported_more die core dies old new all added so_far = by (length made.rows == 0) refl
  where
    made : DieReport
    made = die_report_of core.start core.log die

    rest : List DieReport
    rest = reports_of (die + 1) dies

    by : (b : Bool) → (length made.rows == 0) ≡ b → IsReportedOf new rest all
    by true e = (
      so_far.0,
      added ∙ (adds_nothing made old (no_rows made.rows e) (no_cert core.start core.log e) ∙ so_far.1),
      rw e at so_far.2,
    )
    by false e = (
      so_far.0 ++ made ∷ [],
      text_more so_far.0 made old new so_far.1 added,
      append_assoc so_far.0 (made ∷ []) rest ∙ (rw e at so_far.2),
    )

-- where no die is left the text is that of all
pub all_reported : (text : TextSoFar) (left all : List DieReport) → left ≡ [] → IsReportedOf text left all → text ≡ text_so_far all
all_reported text left all none so_far =
    so_far.1 ∙ ap text_so_far (sym (append-nil so_far.0) ∙ (ap (λ (xs : List DieReport). so_far.0 ++ xs) (sym none) ∙ so_far.2))

-- Runs

calls_exact : (plan : DiePlan) (calls : List ScriptCall) (before after : DieRun) → IsExact (fresh plan) before.log → MakesCalls plan before calls after
    → IsExact (fresh plan) after.log
calls_exact plan [] before after exact is = subst (λ (r : DieRun). IsExact (fresh plan) r.log) (sym is) exact
calls_exact plan (Slot ∷ calls) before after exact (between, (accepted, same), rest) =
    calls_exact plan calls between after (subst (IsExact (fresh plan)) (sym accepted.1) (exact, refl, accepted.0)) rest
calls_exact plan (Row item ∷ calls) before after exact (between, (refusal, ended, more), rest) =
    calls_exact plan calls between after (one refusal ended) rest
  where
    one : (r : Option Refusal) → Ends plan before.log item.event r between.log → IsExact (fresh plan) between.log
    one None accepted = subst (IsExact (fresh plan)) (sym accepted.1) (exact, refl, accepted.0)
    one (Some e) refused = subst (IsExact (fresh plan)) (sym refused.1) exact

-- a die that has run its rows up to the last slot
script_run : (plan : DiePlan) (items : List ScriptItem) (slots : ℕ) (d : RowDie) → (come : HasCome plan items slots d) → latest_slot items ≤ slots
    → IsScriptRun plan slots items (run_at (core_of d).log come.ends)
script_run plan items slots d come within =
    let at : d.die.clock ≡ slots = omega (arith, come.clock_is, within) in
    let ran : MakesCalls plan fresh_run (calls_of slots items) (run_at (core_of d).log come.ends) =
    subst (λ (n : ℕ). MakesCalls plan fresh_run (calls_of n items) (run_at (core_of d).log come.ends)) at come.ran in record {
      ran = ran;
      all_slots = sym come.idle.clock_is ∙ at;
      exact = calls_exact plan (calls_of slots items) fresh_run (run_at (core_of d).log come.ends) tt ran;
    }

-- each die, from this number on, has run its rows up to the last slot
abbrev pub HaveCome : ℕ → (ℕ → List ScriptItem) → ℕ → List DiePlan → List RowDie → Type 0
HaveCome slots feed number [] [] = ⊤
HaveCome slots feed number (plan ∷ plans) (d ∷ dies) = HasCome plan (feed number) slots d × HaveCome slots feed (number + 1) plans dies
HaveCome slots feed number _ _ = ⊥

record Gathered (slots number : ℕ) (feed : ℕ → List ScriptItem) (plans : List DiePlan) (dies : List RowDie) : Type 0 where
  runs : List DieRun
  ran : AreRuns slots feed number plans runs
  reported : reports_of number (map core_of dies) ≡ reports_from number plans runs
  counted : (before : List RowEnd) → joined_after (count_of before) dies ≡ count_of (before ++ ends_of runs)

gathered : (slots number : ℕ) (feed : ℕ → List ScriptItem) (plans : List DiePlan) (dies : List RowDie)
    → ((k : ℕ) → k < length plans → latest_slot (feed (number + k)) ≤ slots) → HaveCome slots feed number plans dies
    → Gathered slots number feed plans dies
gathered slots number feed [] [] in_time come = record {
  runs = [];
  ran = tt;
  reported = refl;
  counted = λ before. ap count_of (sym (append-nil before));
}
gathered slots number feed [] (d ∷ dies) in_time come = absurd come
gathered slots number feed (plan ∷ plans) [] in_time come = absurd come
gathered slots number feed (plan ∷ plans) (d ∷ dies) in_time come =
    let h = come.0 in
    let rest = gathered slots (number + 1) feed plans dies
    (λ k below. subst (λ (n : ℕ). latest_slot (feed n) ≤ slots) (let on : number + suc k ≡ number + 1 + k = omega arith in on)
    (in_time (suc k) (omega (arith, below)))) come.1 in
    let due : latest_slot (feed number) ≤ slots = subst (λ (n : ℕ). latest_slot (feed n) ≤ slots)
    (let same : number + 0 ≡ number = omega arith in same) (in_time 0 (omega arith)) in
    let ran = run_at (core_of d).log h.ends in record {
      runs = ran ∷ rest.runs;
      ran = (script_run plan (feed number) slots d h due, rest.ran);
      reported = ap (λ (x : Start). with_rows (die_report_of x (core_of d).log number) (reports_of (number + 1) (map core_of dies)))
          h.idle.start_is
          ∙ ap (with_rows (die_report_of (fresh plan) (core_of d).log number)) rest.reported;
      counted = λ before. ap (λ (c : RunCount). joined_after (sum_of_counts (count_of before) c) dies) h.counted
          ∙ (ap (λ (c : RunCount). joined_after c dies) (counts_join before h.ends)
          ∙ (rest.counted (before ++ h.ends) ∙ ap count_of (append_assoc before h.ends (ends_of rest.runs))));
    }

pub latest_within : (slots : ℕ) (items : List ScriptItem) → AllByRecursion (Arrives slots) items → latest_slot items ≤ slots
latest_within slots [] arrive = omega arith
latest_within slots (item ∷ items) arrive = let rest = latest_within slots items arrive.1 in omega (arith, rest, arrive.0.0)

-- the parts of the report, and the count, of dies that ran all rows of a script
pub ran_script : (text : Option (List ℕ)) (plans : List DiePlan) (slots : ℕ) (dies : List RowDie) (said : List TextSoFar) (count : RunCount)
    (items : List ScriptItem) → AreItemsOf text (length plans) slots items → AreInTime (length plans) slots items
    → HaveCome slots (feed_of items) 0 plans dies → AreReported dies said count → RanScript text plans slots said count
ran_script text plans slots dies said count items script in_time come c =
    let g = gathered slots 0 (feed_of items) plans dies
    (λ k below. latest_within slots (feed_of items (0 + k)) (recursion_from_All (Arrives slots) (feed_of items (0 + k))
    (in_time.arrive (0 + k) (omega (arith, below))))) come in record {
      items = items;
      script = script;
      in_time = in_time;
      report = reports_of 0 (map core_of dies);
      ran = record { runs = g.runs; ran = g.ran; reported = g.reported; counted = c.counted ∙ g.counted [] };
      said_is = ap joined_text c.said ∙ parts_text (map core_of dies);
    }

unfoldable pub runs_text : (text : Option (List ℕ)) (plans : List DiePlan) (slots : ℕ) (said : List TextSoFar) (count : RunCount)
    (old new : Option (List ℕ)) (r : RanScript text plans slots said count) → Appends old new (report_text r.report)
    → RunsText text plans slots count old new
runs_text text plans slots said count old new r written = record {
  items = r.items;
  script = r.script;
  pages = r.in_time.pages;
  runs = r.ran.runs;
  ran = r.ran.ran;
  counted = r.ran.counted;
  written = subst (λ (report : List DieReport). Appends old new (report_text report)) r.ran.reported written;
}
