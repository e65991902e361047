-- A row of a report in two parts: its numbers, and what its reads gave.
use Rattle.std.specs.Prelude.{List, Option, Some}
use Rattle.slot_types.specs.declared.pages.PageData.{PageData}
use Rattle.report_texts.specs.ReportRows.{◌>>=◌}
use Rattle.report_texts.specs.declared.report_rows.DieRow.{DieRow}
use Rattle.report_texts.specs.declared.reports.ReportRow.{ReportRow}
use Rattle.report_texts.specs.declared.row_numbers.RowNumbers.{RowNumbers}

-- the row of these numbers and reads
abbrev pub row_with : RowNumbers → List PageData → ReportRow
row_with n reads = record {
  row = n.row;
  job = n.job;
  task = n.task;
  release = n.release;
  due = n.due;
  work = n.work;
  completion = n.completion;
  lateness = n.lateness;
  given = n.given;
  reads = reads;
}

-- so it is, with its die
abbrev pub die_row : RowNumbers → List PageData → DieRow
die_row n reads = record { die = n.die; row = row_with n reads }

-- the same, where both parts are known
abbrev pub with_reads : Option RowNumbers → Option (List PageData) → Option DieRow
with_reads numbers known = numbers >>= (λ n. known >>= (λ reads. Some (die_row n reads)))

-- the numbers of a row
abbrev pub numbers_of : DieRow → RowNumbers
numbers_of x = record {
  die = x.die;
  row = x.row.row;
  job = x.row.job;
  task = x.row.task;
  release = x.row.release;
  due = x.row.due;
  work = x.row.work;
  completion = x.row.completion;
  lateness = x.row.lateness;
  given = x.row.given;
}
