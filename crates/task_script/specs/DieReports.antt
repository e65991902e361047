-- The report of a die, read off its log.
use Rattle.std.specs.Prelude.{ℕ, ℤ, Bool, true, false, List, [], map, Option, Some, None}
use Rattle.slot_types.specs.declared.pages.PageData.{PageData}
use Rattle.die_log.specs.Model.Log.{Log, Job, jobs}
use Rattle.die_log.specs.Model.Rows.{certificate}
use Rattle.slot_types.specs.declared.events.JobHead.{JobHead}
use Rattle.slot_core.specs.declared.outcomes.Outcome.{Outcome}
use Rattle.slot_core.specs.declared.outcomes.Outcome.TheVariants as outcomes
use Rattle.slot_core.specs.Summaries.{JobSummary, summary_of}
use Rattle.report_texts.specs.declared.reports.DieReport.{DieReport}
use Rattle.report_texts.specs.declared.reports.ReportRow.{ReportRow}
use Rattle.report_texts.specs.declared.reports.RowKind.{RowKind}
use Rattle.report_texts.specs.declared.reports.RowKind.TheVariants as kind
use Rattle.die_log.specs.Model.Start.{Start}

abbrev pub kind_of : Bool → RowKind
kind_of true = kind.Collect
kind_of false = kind.Job

-- only a collection gives its task anything
abbrev pub given_by : Bool → ℕ → Option ℕ
given_by true given = Some given
given_by false given = None

abbrev pub row_from : RowKind → ℕ → JobHead → ℕ → Option ℕ → Option ℤ → Option ℕ → List PageData → ReportRow
row_from row number head took completion lateness given reads = record {
  row = row;
  job = number;
  task = head.task;
  release = head.release;
  due = head.due;
  work = took;
  completion = completion;
  lateness = lateness;
  given = given;
  reads = reads;
}

-- the row of a number, by what it was accepted with, the slots that it took and what became of it: a waiting one has
-- neither completion nor lateness, and a waived one took no slot
abbrev pub row_by : ℕ → JobHead → ℕ → Outcome → ReportRow
row_by number head took outcomes.Waiting = row_from (kind_of head.collects) number head took None None None []
row_by number head took (outcomes.Done completion lateness given reads) =
    row_from (kind_of head.collects) number head took (Some completion) (Some lateness) (given_by head.collects given) reads
row_by number head took (outcomes.Waived given) = row_from kind.Waived number head 0 None None (Some given) []

abbrev pub row_as : ℕ → JobSummary → ReportRow
row_as number summary = row_by number summary.head summary.work summary.outcome

-- the row of a job or collection of a log
abbrev pub report_row_of : Start → Log → Job → ReportRow
report_row_of start log j = row_as j.number (summary_of start log j)

-- the rows of all, by number
abbrev pub report_rows_of : Start → Log → List ReportRow
report_rows_of start log = map (report_row_of start log) (jobs log)

-- the report of the die of this number, whose log this is: all rows, and the certificate of the worst
abbrev pub die_report_of : Start → Log → ℕ → DieReport
die_report_of start log die = record { die = die; rows = report_rows_of start log; cert = certificate start.plan log }
