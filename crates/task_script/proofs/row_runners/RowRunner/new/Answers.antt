use Rattle.task_script.proofs.BatchesRun.{runs_none}
use Rattle.task_script.proofs.row_runners.RowRunner.new.Goals as goal

pub returns-clause-fresh : goal.returns-clause-fresh
returns-clause-fresh c = runs_none c.args.plan.now c.in_ok-die.die c.in_ok-die.ensures.fresh
