use Rattle.flashplan_checkpoint_runs.proofs.store_runs.run_script.Goals as goal

pub returns-clause-ran : goal.returns-clause-ran
returns-clause-ran g c = c.run_lent.ensures.ran (g.R.Read.remaining c.args.script) c.in_ok-script.ensures.script
