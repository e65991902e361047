-- The work of a report: what certificates are checked against.
use Rattle.std.specs.Prelude.{◌≡◌, ℕ, List, [], ◌∷◌, ◌++◌, map, All, Option, Result, Ok, Err}
use Rattle.late_cert.specs.Rows.{RowsRise}
use Rattle.slot_types.specs.declared.refusals.Refusal.{Refusal}
use Rattle.report_texts.specs.JobRows.{job_rows_of}
use Rattle.report_texts.specs.ReportOf.{Reading, Says, report_on}
use Rattle.report_texts.specs.Worst.{finish_of, worse_finish, worst_of}
use Rattle.report_texts.specs.declared.report_work.DieWork.{DieWork}
use Rattle.report_texts.specs.declared.reports.DieReport.{DieReport}
use Rattle.report_texts.specs.declared.reports.ReportRow.{ReportRow}

-- the work of a die: the rows that a certificate is checked against, the worst of them, and the certificate
abbrev pub work_of : DieReport → DieWork
work_of die = record { die = die.die; rows = job_rows_of die.rows; worst = worst_of die.rows; cert = die.cert }

-- no work yet of a die
abbrev pub no_work_on : ℕ → DieWork
no_work_on die = work_of (report_on die [])

-- a die's work with one more row, which is no row of it where the row is of a waived collection
abbrev pub with_work : DieWork → ReportRow → DieWork
with_work work row = record work { rows = work.rows ++ job_rows_of (row ∷ []); worst = worse_finish work.worst (finish_of row) }

-- the work of all dies
abbrev pub works_of : List DieReport → List DieWork
works_of report = map work_of report

-- the rows of each die rise by number
abbrev pub AllRise : List DieWork → Type 0
AllRise work = All (λ (die : DieWork). RowsRise die.rows) work

-- a call gave the work of a report, or a refusal, as the known reading of a text has it, if memory and the reader
-- didn't fail
abbrev pub SaysWork : Option Reading → Result (List DieWork) Refusal → Type 0
SaysWork known (Ok work) = (report : List DieReport) × (work ≡ works_of report) × Says known (Ok report)
SaysWork known (Err e) = Says known (Err e)
