use Rattle.std.proofs.Common.{◌++◌, List, drop}
use Rattle.std.specs.List.{AllZip}
use Rattle.task_script.specs.RowRunners.{IsFreshOf}
use Rattle.task_script.specs.declared.row_runners.RowRunner.{RowRunner}
use Rattle.task_script.proofs.sending.fresh_runners.Given as goal

abbrev pub invariant-loop-plan : goal.invariant-loop-plan
invariant-loop-plan l = (runners : List RowRunner) → AllZip IsFreshOf (drop l.plan-index l.plans) runners
    → AllZip IsFreshOf l.plans (l.runners.items ++ runners)
