use Rattle.std.proofs.Common.{◌≡◌, ◌≤◌, ◌+◌, List, length, map}
use Rattle.std.specs.Prelude.{option_map}
use Rattle.report_texts.specs.Numbering.{AreNumbered}
use Rattle.report_texts.specs.RecordsLeft.{IsReady, Stays, reader_failed, record_line, records_fit, records_left}
use Rattle.report_texts.specs.ReportOf.{certs_from}
use Rattle.report_texts.specs.declared.reports.DieReport.{DieReport}
use Rattle.report_texts.proofs.KeptLaws.{AreCertsRead}
use Rattle.report_texts.proofs.report_reading.take_certs.Given as goal

abbrev pub invariant-loop-i : goal.invariant-loop-i
invariant-loop-i g l = record {
  ready : IsReady l.records;
  failed : reader_failed l.records ≡ reader_failed l.initial.records;
  line : record_line l.records ≤ l.i + 524290;
  few : l.i-end ≤ 8;
  fits : Stays (records_fit g.R.Read.remaining l.initial.records) (records_fit g.R.Read.remaining l.records);
  len : length l.dies.items ≡ l.i-end;
  read : (ds : List DieReport) → l.initial.dies.items ≡ map g.K.KeptDie.kept_of ds → AreNumbered ds
      → AreCertsRead g.K.KeptDie.kept_of l.dies.items l.i
      (option_map (certs_from ds (record_line l.initial.records)) (records_left g.R.Read.remaining l.initial.records))
      (record_line l.records) (records_left g.R.Read.remaining l.records);
}
