use Rattle.std.proofs.Common.{map}
use Rattle.std.proofs.lemmas.Result.{IfOk-weaker}
use Rattle.flashplan_script_runs.specs.RunningDies.{starts_of}
use Rattle.flashplan_watched_runs.specs.Runs.{IsReportFrom, Tells, begun}
use Rattle.flashplan_watched_runs.specs.declared.script_runs.Reported.{Reported}
use Rattle.flashplan_watched_runs.proofs.RunsOf.{is_report}
use Rattle.flashplan_watched_runs.proofs.reports.report_of.Goals as goal

pub returns : goal.returns
returns g c = record {
  ran = λ text is.
      let starts = starts_of (map begun c.args.dies.items) in
      let dies = c.in_ok-ran.ran.dies.items in
      let refused = c.in_ok-ran.ran.refused.items in
      IfOk-weaker c.reported.result (Tells dies refused c.args.life c.args.units c.args.as_csv c.args.fail)
      (IsReportFrom starts text c.args.slots c.args.life c.args.units c.args.as_csv c.args.fail)
      (λ (said : Reported) (tells : Tells dies refused c.args.life c.args.units c.args.as_csv c.args.fail said).
      is_report starts text c.args.slots c.args.life c.args.units c.args.as_csv c.args.fail dies refused said (c.in_ok-ran.ensures.ran text is) tells)
      c.reported.ensures;
}
