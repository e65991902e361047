use Rattle.std.proofs.Common.{◌≡◌, ◌∙◌, ap, sym, subst, false, length, map}
use Rattle.std.specs.Global.{Box}
use Rattle.std.specs.Prelude.{All}
use Rattle.std.proofs.lemmas.List.{length-map}
use Rattle.std.proofs.lemmas.List.Elements.{All-weaker}
use Rattle.script_texts.specs.ScriptLeft.{script_left}
use Rattle.flashplan_script_runs.specs.RunningDies.{HasEmptyLog, starts_of}
use Rattle.flashplan_watched_runs.specs.Failing.{RunsWell}
use Rattle.flashplan_watched_runs.specs.Runs.{begun, core_of, running}
use Rattle.flashplan_watched_runs.specs.declared.die_runs.DieRun.{DieRun}
use Rattle.flashplan_watched_runs.proofs.RunsOf.{run_begun}
use Rattle.flashplan_watched_runs.proofs.script_runs.run_started.Goals as goal

pub run_dies-requires-clause-dies : goal.run_dies-requires-clause-dies
run_dies-requires-clause-dies g c =
    c.requires.dies ∙ sym (sym (length-map c.in_ok-runs.runs.items running) ∙ ap length c.in_ok-runs.ensures.same ∙ length-map c.args.dies.items begun)

pub run_dies-requires-clause-empty : goal.run_dies-requires-clause-empty
run_dies-requires-clause-empty g c = subst (All HasEmptyLog) (sym c.in_ok-runs.ensures.same) c.requires.empty

pub returns-clause-ran : goal.returns-clause-ran
returns-clause-ran g c = λ text is.
    run_begun c.args.dies.items text c.args.slots (script_left g.R.Read.remaining c.args.script.now) c.in_ok-refused.refused.items
    (map running c.run_dies.new.dies.items) is
    (c.run_dies.ensures.starts ∙ ap starts_of c.in_ok-runs.ensures.same) c.in_ok-refused.ensures.ran

pub returns-clause-well : goal.returns-clause-well
returns-clause-well g c = λ well.
    All-weaker (λ (run : Box DieRun). RunsWell (core_of run)) (λ (run : Box DieRun). (running run).stopped ≡ false) (λ run both. both.0)
    c.run_dies.new.dies.items (c.run_dies.ensures.well (c.in_ok-runs.ensures.well well))
