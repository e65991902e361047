use Rattle.task_script.proofs.BatchesRun.{is_ready}
use Rattle.task_script.proofs.row_runners.RowRunnerRunnerRowBatch.run.Goals as goal

pub run-ran-requires-clause-idle : goal.run-ran-requires-clause-idle
run-ran-requires-clause-idle c =
    (is_ready c.requires.0 c.args.batch.now c.args.self.now c.in-Ok.die c.requires.1 c.requires.2 c.in-Ok.is).0

pub run-ran-requires-clause-few : goal.run-ran-requires-clause-few
run-ran-requires-clause-few c =
    (is_ready c.requires.0 c.args.batch.now c.args.self.now c.in-Ok.die c.requires.1 c.requires.2 c.in-Ok.is).1
