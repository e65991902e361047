use Rattle.flashplan_script_runs.proofs.GoingOn.{all_stay}
use Rattle.flashplan_checkpoint_runs.specs.Runs.{running}
use Rattle.flashplan_checkpoint_runs.proofs.store_runs.settled.Goals as goal

pub returns-then-not-saves-clause-went_on : goal.returns-then-not-saves-clause-went_on
returns-then-not-saves-clause-went_on c = all_stay (running c.args.dies.now.items)
