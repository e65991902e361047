use Rattle.csv.specs.Reading.{has_failed}
use Rattle.std.proofs.Common.{◌≡◌, ◌≤◌, ◌-◌, []}
use Rattle.std.specs.Prelude.{option_map}
use Rattle.report_texts.specs.RecordsLeft.{Stays}
use Rattle.text_base.specs.CsvRecordsLeft.{fits_left, rows_left}
use Rattle.text_base.specs.Plain.{IsPlain}
use Rattle.checkpoint_texts.specs.CheckpointOf.{dies_from}
use Rattle.checkpoint_texts.specs.Gathering.{between}
use Rattle.checkpoint_texts.proofs.reading.take_dies.Given as goal

abbrev pub decreases-loop-line : goal.decreases-loop-line
decreases-loop-line g l = 2105482 - l.line

abbrev pub invariant-loop-line : goal.invariant-loop-line
invariant-loop-line g l = record {
  plain : IsPlain l.rows;
  failed : has_failed l.rows ≡ has_failed l.initial.rows;
  few : l.line ≤ 2105482;
  fits : Stays (fits_left g.R.Read.remaining l.initial.rows) (fits_left g.R.Read.remaining l.rows);
  read : Stays (option_map (dies_from (between []) 2) (rows_left g.R.Read.remaining l.initial.rows))
      (option_map (dies_from l.gathered l.line) (rows_left g.R.Read.remaining l.rows));
}
