use Rattle.std.proofs.Common.{◌∙◌, ℕ, List, ap, sym, subst}
use Rattle.die_log.specs.Model.Start.{Start}
use Rattle.flashplan_script_runs.specs.ScriptRuns.{script_in}
use Rattle.flashplan_watched_runs.specs.Runs.{IsDrawingFrom}
use Rattle.flashplan_checkpoint_runs.proofs.watched_runs.draw_from.Goals as goal

pub returns-clause-ran : goal.returns-clause-ran
returns-clause-ran g c =
    let text = g.R.Read.remaining c.args.script in
    subst (λ (starts : List Start). IsDrawingFrom starts text c.args.slots c.args.die c.args.fail c.in_ok-drawn.drawn) c.in_ok-dies.ensures.starts
    (c.in_ok-drawn.ensures.ran text
    (c.in_ok-script.ensures.script ∙ ap (λ (n : ℕ). script_in n c.args.slots text) (sym c.in_ok-dies.ensures.count)))
