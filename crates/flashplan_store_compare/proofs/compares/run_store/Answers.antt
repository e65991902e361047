use Rattle.std.proofs.Common.{◌≡◌, ◌∙◌, length, map}
use Rattle.std.proofs.lemmas.List.{length-map}
use Rattle.script_texts.specs.ScriptLeft.{script_left}
use Rattle.flashplan_script_runs.specs.RunningDies.{RunningDie, starts_of}
use Rattle.flashplan_script_runs.specs.ScriptRuns.{RanScript}
use Rattle.flashplan_script_runs.proofs.TextRuns.{both_ok, run_of_text}
use Rattle.flashplan_store_compare.specs.Runs.{begun, running}
use Rattle.flashplan_store_compare.specs.declared.compares.Ran.{Ran}
use Rattle.flashplan_store_compare.proofs.compares.run_store.Goals as goal

pub returns-clause-ran : goal.returns-clause-ran
returns-clause-ran g c =
    let left = script_left g.R.Read.remaining c.in_ok-script.script in
    let dies = map begun c.args.started.items in
    both_ok c.run_lent.result
    (λ (ran : Ran) (started : starts_of (map running ran.dies.items) ≡ starts_of dies)
    (runs : RanScript left c.args.measure.slots ran.refused.items (map running ran.dies.items)).
    run_of_text (starts_of dies) (g.R.Read.remaining c.args.script) c.args.measure.slots (length c.args.plan.now) left ran.refused.items
    (map running ran.dies.items)
    (length-map dies (λ (die : RunningDie). die.start) ∙ length-map c.args.started.items begun ∙ c.requires.dies)
    c.in_ok-script.ensures.script started runs)
    c.run_lent.ensures.starts c.run_lent.ensures.ran
