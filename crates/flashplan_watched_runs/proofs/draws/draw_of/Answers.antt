use Rattle.std.proofs.Common.{◌≡◌, map}
use Rattle.flashplan_script_runs.specs.Counted.{CountsRows}
use Rattle.flashplan_script_runs.specs.RunningDies.{starts_of}
use Rattle.flashplan_script_runs.proofs.TextRuns.{both_ok}
use Rattle.flashplan_watched_runs.specs.Runs.{begun, core_of, failure_as}
use Rattle.flashplan_watched_runs.specs.declared.script_runs.Reported.{Reported}
use Rattle.flashplan_watched_runs.proofs.RunsOf.{is_drawing}
use Rattle.flashplan_watched_runs.proofs.draws.draw_of.Goals as goal

pub returns : goal.returns
returns g c = record {
  ran = λ text is.
      let run = c.in_ok-ran.ran.die in
      let refused = c.in_ok-ran.ran.refused.items in
      both_ok c.drawn.result
      (λ (said : Reported) (fails : said.failure ≡ failure_as c.args.die c.args.fail (core_of run)) (counted : CountsRows refused said.refused).
      is_drawing (starts_of (map begun c.args.dies.items)) text c.args.slots c.args.die c.args.fail run refused said
      (c.in_ok-ran.ensures text is) counted fails)
      c.drawn.ensures.failure c.drawn.ensures.counted;
}
