use Rattle.std.proofs.Common.{rules, ◌≡◌, ◌∙◌, ℕ, Err, List, ap, length, refl, sym, subst}
use Rattle.die_log.specs.Model.Start.{Start}
use Rattle.flashplan_script_runs.specs.ScriptRuns.{script_in}
use Rattle.flashplan_watched_runs.specs.WearText.{IsWearFrom}
use Rattle.flashplan_checkpoint_runs.proofs.Refused.{start_refuses_run}
use Rattle.flashplan_checkpoint_runs.proofs.watched_runs.wear_from.Goals as goal

pub wear_of-requires-clause-dies : goal.wear_of-requires-clause-dies
wear_of-requires-clause-dies g c = c.in_ok-script.ensures.dies ∙ sym c.in_ok-dies.ensures.count

pub wear_of-requires-clause-well : goal.wear_of-requires-clause-well
wear_of-requires-clause-well g c = c.in_ok-dies.ensures.well refl

pub returns-clause-text : goal.returns-clause-text
returns-clause-text g c =
    let text = g.R.Read.remaining c.args.script in
    subst (λ (starts : List Start). IsWearFrom starts text c.args.slots c.in_ok-worn.worn.refused c.in_ok-worn.worn.text.items) c.in_ok-dies.ensures.starts
    (c.in_ok-worn.ensures.text text
    (c.in_ok-script.ensures.script ∙ ap (λ (n : ℕ). script_in n c.args.slots text) (sym c.in_ok-dies.ensures.count)))

pub returns-in_err-dies-clause-refused : goal.returns-in_err-dies-clause-refused
returns-in_err-dies-clause-refused g c =
    let text = g.R.Read.remaining c.args.script in
    let refused : c.from_residual-in_err-dies.result ≡ Err c.in_err-dies.field-0.0 = search rules in
    rw refused (start_refuses_run c.args.plan c.args.from (script_in (length c.args.plan) c.args.slots text) c.in_err-dies.field-0.0
    c.in_err-dies.ensures.refused)
