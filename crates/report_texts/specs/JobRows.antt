-- The rows of a report that a certificate is checked against.
use Rattle.std.specs.Prelude.{List, Option, Some, None}
use Rattle.std.specs.List.{filter_map}
use Rattle.late_cert.specs.declared.rows.JobRow.{JobRow}
use Rattle.report_texts.specs.declared.reports.ReportRow.{ReportRow}
use Rattle.report_texts.specs.declared.reports.RowKind.{RowKind}
use Rattle.report_texts.specs.declared.reports.RowKind.TheVariants as kind

-- a row's job row, except for a collection that was waived
abbrev pub job_row_if : ReportRow → RowKind → Option JobRow
job_row_if row kind.Waived = None
job_row_if row kind.Job = Some (record {
  number = row.job;
  release = row.release;
  due = row.due;
  work = row.work;
  completion =
      row.completion;
})
job_row_if row kind.Collect = Some (record {
  number = row.job;
  release = row.release;
  due = row.due;
  work = row.work;
  completion =
      row.completion;
})

abbrev pub job_row_of : ReportRow → Option JobRow
job_row_of row = job_row_if row row.row

-- the rows of jobs and of collections that were not waived, in order
abbrev pub job_rows_of : List ReportRow → List JobRow
job_rows_of rows = filter_map job_row_of rows
