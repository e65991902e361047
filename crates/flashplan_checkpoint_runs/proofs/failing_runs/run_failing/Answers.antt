use Rattle.std.proofs.Common.{◌≡◌, length, map}
use Rattle.std.proofs.lemmas.List.{length-map}
use Rattle.die_log.specs.Model.Start.{fresh}
use Rattle.script_texts.specs.ScriptLeft.{script_left}
use Rattle.flashplan_checkpoint_runs.specs.Counted.{RanCounting}
use Rattle.flashplan_script_runs.proofs.TextRuns.{both_ok, run_of_text}
use Rattle.flashplan_checkpoint_runs.specs.Runs.{running, starts_of}
use Rattle.flashplan_checkpoint_runs.specs.declared.failing_runs.FailingRun.{FailingRun}
use Rattle.flashplan_checkpoint_runs.proofs.failing_runs.run_failing.Goals as goal

pub returns-clause-ran : goal.returns-clause-ran
returns-clause-ran g c =
    let left = script_left g.R.Read.remaining c.in_ok-script.script in
    both_ok c.run_lent.result
    (λ (came : FailingRun) (begun : starts_of came.dies.items ≡ map fresh c.args.plan)
    (runs : RanCounting left c.args.slots came.refused (running came.dies.items)).
    record {
      refused = runs.refused;
      ran = run_of_text (map fresh c.args.plan) (g.R.Read.remaining c.args.script) c.args.slots (length c.args.plan) left runs.refused
          (running came.dies.items) (length-map c.args.plan fresh) c.in_ok-script.ensures.script begun runs.ran;
      counted = runs.counted;
    })
    c.run_lent.ensures.starts c.run_lent.ensures.ran
