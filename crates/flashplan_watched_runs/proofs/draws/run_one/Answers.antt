use Rattle.std.proofs.Common.{◌≡◌, map, Some}
use Rattle.std.specs.Prelude.{slice_get}
use Rattle.script_texts.specs.ScriptLeft.{script_left}
use Rattle.flashplan_script_runs.specs.RunningDies.{starts_of}
use Rattle.flashplan_script_runs.specs.ScriptRuns.{RanAsDie}
use Rattle.flashplan_script_runs.proofs.TextRuns.{both_ok}
use Rattle.flashplan_watched_runs.specs.Runs.{begun, core_of, running}
use Rattle.flashplan_watched_runs.specs.declared.draws.RanDie.{RanDie}
use Rattle.flashplan_watched_runs.proofs.RunsOf.{run_as_begun}
use Rattle.flashplan_watched_runs.proofs.draws.run_one.Goals as goal

pub returns : goal.returns
returns g c = λ text is.
    let left = script_left g.R.Read.remaining c.args.script.now in
    let start = slice_get (starts_of (map begun c.args.dies.items)) c.args.die in
    both_ok c.run_made.result
    (λ (ran : RanDie) (begins : start ≡ Some (core_of ran.die).start) (runs : RanAsDie left c.args.slots c.args.die ran.refused.items (running ran.die)).
    run_as_begun c.args.dies.items text c.args.slots c.args.die left ran.refused.items (running ran.die) is begins runs)
    (c.run_made.ensures.start start c.one_die-made.ensures.start) c.run_made.ensures.ran
