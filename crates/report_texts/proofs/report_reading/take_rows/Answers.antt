use Rattle.std.proofs.Common.{arith, refl, sym, ◌∙◌, Err}
use Rattle.csv.specs.Records.{fields_of}
use Rattle.report_texts.specs.RecordsLeft.{record_line}
use Rattle.report_texts.specs.ReportOf.{rows_from}
use Rattle.report_texts.proofs.KeptLaws.{rows-done, rows-early, rows-few, rows-further, rows-next, rows-start, rows-stop, stays-same}
use Rattle.report_texts.proofs.RecordLaws.{reads-on, reads-outside, stays-then}
use Rattle.report_texts.proofs.report_reading.take_rows.Goals as goal

pub loop-fields-init : goal.loop-fields-init
loop-fields-init g c = record {
  ready = c.requires.ready;
  failed = refl;
  fits = stays-same _;
  read = rows-start _ _ _ _ c.no_rows-kept.ensures c.requires.second;
}

pub returns-then-not-branch-clause-read : goal.returns-then-not-branch-clause-read
returns-then-not-branch-clause-read g c =
    let records = c.loop-fields.records in
    let rows = c.loop-fields.invariant.read in
    rw c.line.ensures (rows-stop _ _ _ _ _ (record_line records) records.found (fields_of records.fields)
    (fields_of c.in-Some.fields.now) _ _ (sym c.in-Some.ensures) rows
    (rw c.if-not-branch.true at (c.in_ok-gather.ensures.row rows.whole rows.is)))

pub returns-in-Err-clause-read : goal.returns-in-Err-clause-read
returns-in-Err-clause-read g c =
    let rows = c.loop-fields.invariant.read in
    reads-on _ (rows_from rows.whole (record_line c.loop-fields.records)) _ _ _ _ (Err c.in-Err.refusal) rows.read
    (reads-outside _ _ _ _ c.in-Err.refusal c.in-Err.ensures.refused)

pub loop-fields-preserved : goal.loop-fields-preserved
loop-fields-preserved g c =
    let records = c.loop-fields.records in
    let rows = c.loop-fields.invariant.read in
    record {
      ready = c.in-Ok.ensures.ready;
      failed = c.in-Ok.ensures.failed ∙ c.loop-fields.invariant.failed;
      fits = stays-then _ _ _ c.loop-fields.invariant.fits c.in-Ok.ensures.fits;
      read = rows-next _ _ c.gather.new.kept _ (record_line records) (record_line c.advance.new.self) records.found
          (fields_of records.fields) (fields_of c.in-Some.fields.now) _ _ (sym c.in-Some.ensures) c.in-Ok.ensures.line
          c.in-Ok.ensures.next rows (rw c.if-not-branch.false at (c.in_ok-gather.ensures.row rows.whole rows.is));
    }

pub loop-fields-smaller : goal.loop-fields-smaller
loop-fields-smaller g c =
    let rows = c.loop-fields.invariant.read in
    let far = rows-further _ _ c.gather.new.kept _ _ (fields_of c.in-Some.fields.now) _ rows
    (rw c.if-not-branch.false at (c.in_ok-gather.ensures.row rows.whole rows.is)) in
    omega (arith, far)

pub gather-requires : goal.gather-requires
gather-requires g c =
    let rows = c.loop-fields.invariant.read in
    rw rows.is rows.few

pub returns-clause-read : goal.returns-clause-read
returns-clause-read g c =
    let records = c.loop-fields.records in
    rows-done _ _ _ _ c.in_ok-dies.dies (record_line records) records.found (fields_of records.fields) _ (sym c.in_default.ensures)
    c.in_ok-dies.ensures.ok c.loop-fields.invariant.read

pub advance-requires-clause-line : goal.advance-requires-clause-line
advance-requires-clause-line g c = omega (arith, rows-early _ _ _ _ _ c.loop-fields.invariant.read)

pub returns-clause-line : goal.returns-clause-line
returns-clause-line g c = rows-early _ _ _ _ _ c.loop-fields.invariant.read

pub returns-clause-few : goal.returns-clause-few
returns-clause-few g c = rows-few _ _ c.in_ok-dies.dies _ _ _ c.in_ok-dies.ensures.ok c.loop-fields.invariant.read
