use Rattle.std.proofs.Common.{rules, ◌≡◌, true, ap, sym, refl, ◌+◌}
use Rattle.csv.specs.Records.{fields_of}
use Rattle.report_texts.specs.ReportHeader.{is_report_header}
use Rattle.report_texts.specs.RecordsLeft.{record_line}
use Rattle.report_texts.specs.ReportOf.{no_rows, report_from, rows_from}
use Rattle.report_texts.proofs.RecordLaws.{reads-advance}
use Rattle.report_texts.proofs.report_reading.take_header.Goals as goal

pub returns-clause-read : goal.returns-clause-read
returns-clause-read g c =
    let heads : is_report_header (fields_of c.in-Some.fields.now) ≡ true = search rules in
    let second : record_line c.args.records.now + 1 ≡ 2 = rw c.requires.first refl in
    reads-advance report_from (rows_from no_rows) _ _ (fields_of c.in-Some.fields.now) _ _ (record_line c.args.records.now)
    (record_line c.advance.new.self) c.advance.result
    (sym c.in-Some.ensures) c.advance.ensures.next c.advance.ensures.line c.advance.ensures.refused
    (λ rest. rw heads (ap (λ n. rows_from no_rows n rest) (sym second)))
