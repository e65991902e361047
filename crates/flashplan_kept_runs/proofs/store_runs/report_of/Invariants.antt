use Rattle.std.proofs.Common.{drop}
use Rattle.task_script.specs.StoreRuns.{reports_of}
use Rattle.task_script.proofs.Gathering.{IsReportedOf}
use Rattle.flashplan_kept_runs.specs.KeptDies.{cores_of}
use Rattle.flashplan_kept_runs.proofs.store_runs.report_of.Given as goal

abbrev pub invariant-loop-number : goal.invariant-loop-number
invariant-loop-number l =
    IsReportedOf l.text (reports_of l.number (drop l.number (cores_of l.dies.items))) (reports_of 0 (cores_of l.dies.items))
