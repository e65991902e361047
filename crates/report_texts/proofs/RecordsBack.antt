-- The records of a report's text are those that were written.
use Rattle.std.proofs.Common.{◌≡◌, ℕ, List, [], ◌∷◌, ◌++◌, map, refl, ap, ◌∙◌, Option, Some, None}
use Rattle.std.specs.Prelude.{flat_map}
use Rattle.std.proofs.lemmas.List.{map-append}
use Rattle.csv.specs.Reading.{strip_bom}
use Rattle.csv.specs.Writing.{default_writer, read_back, row_text}
use Rattle.csv.specs.declared.parser.State.TheVariants as st
use Rattle.csv.proofs.RoundTrip.{read-write}
use Rattle.late_cert.specs.declared.certificates.Certificate.{Certificate}
use Rattle.report_texts.specs.ReportText.{cert_record, cert_record_of, die_records, header_fields}
use Rattle.report_texts.specs.ReportText.{records_text, report_records, report_text}
use Rattle.report_texts.specs.ReportText.{row_fields}
use Rattle.csv.specs.Records.{field_at}
use Rattle.report_texts.specs.ReportOf.{no_rows, report_from}
use Rattle.report_texts.specs.ReportOf as reading
use Rattle.text_base.specs.CsvRecords.{Fields, rows_from, rows_of}
use Rattle.report_texts.specs.declared.reports.DieReport.{DieReport}
use Rattle.report_texts.specs.declared.reports.ReportRow.{ReportRow}
use Rattle.text_base.proofs.RowLaws.{rows-next}

-- the records of written records
written-back : (records : List Fields) → rows_from st.StartRecord [] [] (records_text records) ≡ map read_back records
unfolding rows_from
written-back [] = refl
written-back (r ∷ rs) = rows-next st.StartRecord [] [] (row_text default_writer r ++ records_text rs)
    ∙ rw (read-write r (records_text rs)) (ap (λ (t : List Fields). read_back r ∷ t) (written-back rs))

-- no record of a report is without fields
rows-back : (die : ℕ) (rows : List ReportRow) → map read_back (map (row_fields die) rows) ≡ map (row_fields die) rows
rows-back die [] = refl
rows-back die (row ∷ rows) = ap (λ (t : List Fields). row_fields die row ∷ t) (rows-back die rows)

dies-back : (dies : List DieReport) → map read_back (flat_map die_records dies) ≡ flat_map die_records dies
dies-back [] = refl
dies-back (die ∷ dies) = map-append read_back (die_records die) (flat_map die_records dies)
    ∙ rw (rows-back die.die die.rows, dies-back dies) refl

cert-back : (die : ℕ) (cert : Option Certificate) → map read_back (cert_record_of die cert) ≡ cert_record_of die cert
cert-back die None = refl
cert-back die (Some cert) = refl

certs-back : (dies : List DieReport) → map read_back (flat_map cert_record dies) ≡ flat_map cert_record dies
certs-back [] = refl
certs-back (die ∷ dies) = map-append read_back (cert_record die) (flat_map cert_record dies)
    ∙ rw (cert-back die.die die.cert, certs-back dies) refl

pub records-back : (report : List DieReport) → rows_of (report_text report) ≡ report_records report
unfolding strip_bom
records-back report = written-back (report_records report)
    ∙ ap (λ (t : List Fields). header_fields ∷ t) (map-append read_back (flat_map die_records report) (flat_map cert_record report)
    ∙ rw (dies-back report, certs-back report) refl)

-- the header is the header
pub header-back : (report : List DieReport) → report_from (report_records report)
    ≡ reading.rows_from no_rows 2 (flat_map die_records report ++ flat_map cert_record report)
unfolding field_at
header-back report = refl
