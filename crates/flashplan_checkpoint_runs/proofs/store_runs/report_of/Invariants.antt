use Rattle.std.proofs.Common.{drop}
use Rattle.task_script.specs.StoreRuns.{reports_of}
use Rattle.task_script.proofs.Gathering.{IsReportedOf}
use Rattle.flashplan_checkpoint_runs.proofs.store_runs.report_of.Given as goal

abbrev pub invariant-loop-number : goal.invariant-loop-number
invariant-loop-number g l = IsReportedOf l.text (reports_of l.number (drop l.number l.dies.items)) (reports_of 0 l.dies.items)
