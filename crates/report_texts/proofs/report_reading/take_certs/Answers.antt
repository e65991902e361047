use Rattle.std.proofs.Common.{arith, rules, ◌<◌, ◌≤◌, ◌∙◌, refl, sym, length, length-set}
use Rattle.csv.specs.Records.{fields_of}
use Rattle.report_texts.specs.RecordsLeft.{record_line}
use Rattle.report_texts.proofs.KeptLaws.{certs-done, certs-next, certs-past, certs-start, certs-stop, stays-same}
use Rattle.report_texts.proofs.RecordLaws.{stays-then}
use Rattle.report_texts.proofs.report_reading.take_certs.Goals as goal

pub loop-i-init : goal.loop-i-init
loop-i-init g c = record {
  ready = c.requires.ready;
  failed = refl;
  line = omega (arith, c.requires.line);
  few = search rules;
  fits = stays-same _;
  len = search rules;
  read = λ ds is numbered. certs-start _ _ ds _ _ is numbered;
}

pub returns-in-Err-clause-kept : goal.returns-in-Err-clause-kept
returns-in-Err-clause-kept g c = λ ds is numbered.
    let below : c.loop-i.i < length c.loop-i.dies.items = omega (arith, c.loop-i.invariant.len) in
    certs-stop _ _ c.loop-i.i (record_line c.loop-i.records) _ c.index_mut.result.now c.take_cert.new.die _ _ _ c.in-Err.refusal below
    c.index_mut.ensures.value c.in-Err.ensures.read (c.loop-i.invariant.read ds (c.into_vec-dies.ensures ∙ is) numbered)

pub loop-i-preserved : goal.loop-i-preserved
loop-i-preserved g c =
    let dies = c.loop-i.dies.items in
    let below : c.loop-i.i < length dies = omega (arith, c.loop-i.invariant.len) in
    record {
      ready = c.in-Ok.ensures.ready;
      failed = c.in-Ok.ensures.failed ∙ c.loop-i.invariant.failed;
      line = omega (arith, c.in-Ok.ensures.line, c.loop-i.invariant.line);
      few = c.loop-i.invariant.few;
      fits = stays-then _ _ _ c.loop-i.invariant.fits c.in-Ok.ensures.fits;
      len = length-set dies c.loop-i.i c.take_cert.new.die ∙ c.loop-i.invariant.len;
      read = λ ds is numbered. certs-next _ dies c.loop-i.i (record_line c.loop-i.records) (record_line c.take_cert.new.records)
          c.index_mut.result.now c.take_cert.new.die _ _ _ below c.index_mut.ensures.value c.in-Ok.ensures.read
          (c.loop-i.invariant.read ds is numbered);
    }

pub returns-then-has_one-clause-kept : goal.returns-then-has_one-clause-kept
returns-then-has_one-clause-kept g c = λ ds is numbered.
    let records = c.loop-i.records in
    let above : length c.loop-i.dies.items ≤ c.loop-i.i = omega (arith, c.loop-i.invariant.len) in
    rw c.line.ensures (certs-past _ _ c.loop-i.i (record_line records) records.found (fields_of records.fields) _ _ above
    (sym c.if-has_one.ensures) (c.loop-i.invariant.read ds (c.into_vec-dies.ensures ∙ is) numbered))

pub returns-clause-kept : goal.returns-clause-kept
returns-clause-kept g c = λ ds is numbered.
    let records = c.loop-i.records in
    let above : length c.loop-i.dies.items ≤ c.loop-i.i = omega (arith, c.loop-i.invariant.len) in
    rw c.from_vec.ensures (certs-done _ _ c.loop-i.i (record_line records) records.found (fields_of records.fields) _ _ above
    (sym c.if-has_one.ensures) (c.loop-i.invariant.read ds (c.into_vec-dies.ensures ∙ is) numbered))
