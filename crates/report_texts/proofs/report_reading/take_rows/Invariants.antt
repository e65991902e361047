use Rattle.std.proofs.Common.{◌-◌}
use Rattle.std.specs.Prelude.{◌≡◌, option_map}
use Rattle.report_texts.specs.RecordsLeft.{IsReady, Stays, reader_failed, record_line, records_fit, records_left}
use Rattle.report_texts.specs.ReportOf.{no_rows, rows_from}
use Rattle.report_texts.proofs.KeptLaws.{AreRowsRead}
use Rattle.report_texts.proofs.ProgressLaws.{progress}
use Rattle.report_texts.proofs.report_reading.take_rows.Given as goal

abbrev pub decreases-loop-fields : goal.decreases-loop-fields
decreases-loop-fields g l = 524288 - progress l.kept.die l.kept.rows

abbrev pub invariant-loop-fields : goal.invariant-loop-fields
invariant-loop-fields g l = record {
  ready : IsReady l.records;
  failed : reader_failed l.records ≡ reader_failed l.initial.records;
  fits : Stays (records_fit g.R.Read.remaining l.initial.records) (records_fit g.R.Read.remaining l.records);
  read : AreRowsRead g.K.KeptDie.kept_of l.kept
      (option_map (rows_from no_rows (record_line l.initial.records)) (records_left g.R.Read.remaining l.initial.records))
      (record_line l.records) (records_left g.R.Read.remaining l.records);
}
