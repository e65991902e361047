-- The report of exact logs is read back from its text.
use Rattle.std.proofs.Common.{◌≡◌, ◌≤◌, List, Ok, length}
use Rattle.slot_types.specs.declared.plans.DiePlan.{DiePlan}
use Rattle.report_texts.specs.ReportOf.{report_of}
use Rattle.report_texts.specs.ReportText.{report_text}
use Rattle.report_texts.proofs.ReportsBack.{report_back}
use Rattle.task_script.specs.DieRuns.{DieRun}
use Rattle.task_script.specs.ExactRuns.{AreExact}
use Rattle.task_script.specs.TextRuns.{reports_from}
use Rattle.task_script.proofs.ExactReports.{reports_are_well_formed}

pub exact_back : (plans : List DiePlan) (runs : List DieRun) → length plans ≤ 8 → AreExact plans runs
    → report_of (report_text (reports_from 0 plans runs)) ≡ Ok (reports_from 0 plans runs)
exact_back plans runs few exact = report_back (reports_from 0 plans runs) (reports_are_well_formed plans runs few exact)
