use Rattle.std.proofs.Common.{◌≡◌, take}
use Rattle.report_texts.specs.JobRows.{job_rows_of}
use Rattle.report_texts.proofs.reports.DieReport.job_rows.Given as goal

abbrev pub invariant-loop-row : goal.invariant-loop-row
invariant-loop-row l = l.found ≡ job_rows_of (take l.row-index l.self.rows)
