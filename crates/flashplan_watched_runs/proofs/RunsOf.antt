-- What is reported and drawn is of the run of a script.
use Rattle.std.proofs.Common.{◌≡◌, ℕ, Bool, List, length, map, sym, ◌∙◌, subst, Option, Some}
use Rattle.std.specs.Global.{Box}
use Rattle.std.specs.Prelude.{slice_get}
use Rattle.std.proofs.lemmas.List.{length-map}
use Rattle.die_log.specs.Model.Start.{Start}
use Rattle.script_texts.specs.Script.{Script}
use Rattle.flashplan_script_runs.specs.Counted.{CountsRows}
use Rattle.flashplan_script_runs.specs.RunningDies.{RunningDie, running_of, starts_of}
use Rattle.flashplan_script_runs.specs.ScriptRuns.{IsRunAs, IsRunOf, RanAsDie, RanScript, script_in}
use Rattle.flashplan_script_runs.proofs.TextRuns.{run_as_text, run_of_text}
use Rattle.flashplan_script_runs.specs.declared.refused.RefusedRow.{RefusedRow}
use Rattle.flashplan_slot_times.specs.declared.units.Units.{Units}
use Rattle.flashplan_run_figures.specs.declared.lives.Life.{Life}
use Rattle.flashplan_watched_runs.specs.Figures.{HaveFigures}
use Rattle.flashplan_watched_runs.specs.Runs.{IsDrawingFrom, IsReportFrom, Tells, begun, core_of, failure_as, running}
use Rattle.flashplan_watched_runs.specs.declared.die_runs.DieRun.{DieRun}
use Rattle.flashplan_watched_runs.specs.declared.failing.FailAt.{FailAt}
use Rattle.flashplan_watched_runs.specs.declared.script_runs.Reported.{Reported}
use Rattle.flashplan_watched_runs.specs.declared.started_dies.StartedDie.{StartedDie}
use Rattle.flashplan_watched_runs.proofs.WornDies.{map_twice}

pub is_report : (starts : List Start) (script : Option (List ℕ)) (slots : ℕ) (life : Life) (units : Units) (as_csv : Bool)
    (fail : Option FailAt) (dies : List (Box DieRun)) (refused : List RefusedRow) (said : Reported)
    → IsRunOf starts script slots refused (map running dies) → Tells dies refused life units as_csv fail said
    → IsReportFrom starts script slots life units as_csv fail said
is_report starts script slots life units as_csv fail dies refused said ran tells =
    let same = sym (map_twice running_of core_of dies) in
    record {
      dies = map core_of dies;
      refused = refused;
      ran = subst (λ (l : List RunningDie). IsRunOf starts script slots refused l) same ran;
      counted = tells.counted;
      failure_is = tells.failure_is;
      figures = tells.figures;
      figured = subst (λ (l : List RunningDie). HaveFigures refused life l tells.figures) same tells.figured;
      text_is = tells.text_is;
    }

pub is_drawing : (starts : List Start) (script : Option (List ℕ)) (slots number : ℕ) (fail : Option FailAt) (run : Box DieRun)
    (refused : List RefusedRow) (said : Reported) → IsRunAs starts script slots number refused (running run)
    → CountsRows refused said.refused → said.failure ≡ failure_as number fail (core_of run)
    → IsDrawingFrom starts script slots number fail said
is_drawing starts script slots number fail run refused said ran counted is =
    record { die = core_of run; refused = refused; ran = ran; counted = counted; failure_is = is }

-- as many dies start as there are
pub many_begun : (dies : List StartedDie) → length (starts_of (map begun dies)) ≡ length dies
many_begun dies = length-map (map begun dies) (λ (die : RunningDie). die.start) ∙ length-map dies begun

-- a run of what a reader has left is one of its text, from where the dies started
pub run_begun : (dies : List StartedDie) (text : Option (List ℕ)) (slots : ℕ) (left : Option Script) (refused : List RefusedRow)
    (runs : List RunningDie) → left ≡ script_in (length dies) slots text → starts_of runs ≡ starts_of (map begun dies)
    → RanScript left slots refused runs → IsRunOf (starts_of (map begun dies)) text slots refused runs
run_begun dies text slots left refused runs is start ran =
    run_of_text (starts_of (map begun dies)) text slots (length dies) left refused runs (many_begun dies) is start ran

pub run_as_begun : (dies : List StartedDie) (text : Option (List ℕ)) (slots number : ℕ) (left : Option Script)
    (refused : List RefusedRow) (run : RunningDie) → left ≡ script_in (length dies) slots text
    → slice_get (starts_of (map begun dies)) number ≡ Some run.start → RanAsDie left slots number refused run
    → IsRunAs (starts_of (map begun dies)) text slots number refused run
run_as_begun dies text slots number left refused run is start ran =
    run_as_text (starts_of (map begun dies)) text slots (length dies) number left refused run (many_begun dies) is start ran
