use Rattle.std.proofs.Common.{◌∙◌, ℕ, List, ap, refl, sym, subst}
use Rattle.std.specs.Prelude.{IfOk}
use Rattle.die_log.specs.Model.Start.{Start, fresh}
use Rattle.flashplan_script_runs.specs.ScriptRuns.{script_in}
use Rattle.flashplan_script_runs.proofs.TextRuns.{as_many}
use Rattle.flashplan_watched_runs.specs.Runs.{begun}
use Rattle.flashplan_watched_runs.specs.WearText.{IsWearFrom}
use Rattle.flashplan_watched_runs.specs.declared.script_runs.Reported.{Reported}
use Rattle.flashplan_watched_runs.proofs.script_runs.wear.Goals as goal

pub wear_of-requires-clause-dies : goal.wear_of-requires-clause-dies
wear_of-requires-clause-dies g c =
    c.in_ok-script.ensures.dies ∙ sym (as_many begun fresh c.in_ok-dies.dies.items c.args.plan c.in_ok-dies.ensures.starts)

pub wear_of-requires-clause-well : goal.wear_of-requires-clause-well
wear_of-requires-clause-well g c = c.in_ok-dies.ensures.well refl

pub returns-clause-text : goal.returns-clause-text
returns-clause-text g c =
    let text = g.R.Read.remaining c.args.script in
    let many = as_many begun fresh c.in_ok-dies.dies.items c.args.plan c.in_ok-dies.ensures.starts in
    subst (λ (starts : List Start). IfOk c.wear_of.result (λ (said : Reported). IsWearFrom starts text c.args.slots said.refused said.text.items))
    c.in_ok-dies.ensures.starts
    (c.wear_of.ensures.text text (c.in_ok-script.ensures.script ∙ ap (λ (n : ℕ). script_in n c.args.slots text) (sym many)))
