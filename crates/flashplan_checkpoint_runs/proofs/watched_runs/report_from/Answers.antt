use Rattle.std.proofs.Common.{◌∙◌, ℕ, List, ap, sym, subst}
use Rattle.die_log.specs.Model.Start.{Start}
use Rattle.flashplan_script_runs.specs.ScriptRuns.{script_in}
use Rattle.flashplan_watched_runs.specs.Runs.{IsReportFrom}
use Rattle.flashplan_checkpoint_runs.proofs.watched_runs.report_from.Goals as goal

pub report_of-requires-clause-dies : goal.report_of-requires-clause-dies
report_of-requires-clause-dies g c = c.in_ok-script.ensures.dies ∙ sym c.in_ok-dies.ensures.count

pub returns-clause-ran : goal.returns-clause-ran
returns-clause-ran g c =
    let text = g.R.Read.remaining c.args.script in
    subst (λ (starts : List Start). IsReportFrom starts text c.args.slots c.args.life c.args.units c.args.as_csv c.args.fail c.in_ok-said.said) c.in_ok-dies.ensures.starts
    (c.in_ok-said.ensures.ran text
    (c.in_ok-script.ensures.script ∙ ap (λ (n : ℕ). script_in n c.args.slots text) (sym c.in_ok-dies.ensures.count)))
