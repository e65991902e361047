-- Whatever is written of a well-formed report is read back the same.
use Rattle.std.proofs.Common.{◌≡◌, ◌∙◌, List, Ok, ap, refl, inl}
use Rattle.std.specs.Prelude.{flat_map}
use Rattle.report_texts.specs.ReportOf.{certs_from, no_rows, report_from, report_of}
use Rattle.report_texts.specs.ReportText.{cert_record, report_text}
use Rattle.report_texts.specs.WellFormed.{IsReport}
use Rattle.report_texts.specs.declared.reports.DieReport.{DieReport}
use Rattle.report_texts.proofs.CertsBack.{certs-back}
use Rattle.report_texts.proofs.RecordsBack.{header-back, records-back}
use Rattle.report_texts.proofs.RowsBack.{dies-on, rows-stop}

pub report_back : (report : List DieReport) → IsReport report → report_of (report_text report) ≡ Ok report
report_back report is =
    let rows = dies-on report 0 no_rows 2 (flat_map cert_record report) is (λ die above. inl refl) in
    ap report_from (records-back report) ∙ header-back report ∙ rows.leads ∙ rows-stop rows.last rows.next report
    ∙ ap (λ dies. certs_from dies rows.next (flat_map cert_record report)) rows.all ∙ certs-back report 0 rows.next is
