use Rattle.std.proofs.Common.{◌∙◌, ◌+◌, ◌∷◌, List, ap, drop, map, sym}
use Rattle.std.proofs.lemmas.List.{drop_all, drop_more}
use Rattle.task_script.specs.RanScripts.{with_dies}
use Rattle.task_script.specs.declared.row_runners.RowRunner.{RowRunner}
use Rattle.task_script.proofs.text_runs.first_refusal.Goals as goal

pub returns : goal.returns
returns c =
    ap (λ (ds : List RowRunner). with_dies c.loop-runner.first (map (λ (r : RowRunner). r.die) ds))
    (sym (drop_all c.loop-runner.runner-index c.args.dies.now c.loop-runner-test.false)) ∙ c.loop-runner.invariant

pub loop-runner-preserved : goal.loop-runner-preserved
loop-runner-preserved c =
    let i = c.loop-runner.runner-index in
    let all = c.args.dies.now in
    let next = drop_more all i c.runner-item.result c.loop-runner-test.true
    ∙ ap (λ (r : RowRunner). r ∷ drop (i + 1) all) (sym c.runner-item.is) in
    ap (λ f. with_dies f (map (λ (r : RowRunner). r.die) (drop (i + 1) all))) c.with_die-first.ensures
    ∙ (ap (λ (ds : List RowRunner). with_dies c.loop-runner.first (map (λ (r : RowRunner). r.die) ds)) (sym next) ∙ c.loop-runner.invariant)
