-- The text of a report while it is made, die by die.
use Rattle.std.proofs.Common.{Option, Some, ◌≡◌, ℕ, ◌+◌, ◌<◌, List, [], ◌∷◌, ◌++◌, ap, sym, ◌∙◌, append_assoc, length, drop, get_or, map}
use Rattle.std.specs.Prelude.{flat_map}
use Rattle.std.proofs.lemmas.Grind.{flat_map-append}
use Rattle.std.proofs.lemmas.List.{append-nil, drop_more}
use Rattle.csv.specs.Writing.{default_writer, row_text}
use Rattle.report_texts.specs.ReportText.{cert_fields, cert_record, cert_record_of, die_records, header_fields, records_text}
use Rattle.report_texts.specs.ReportText.{report_text, row_fields}
use Rattle.report_texts.specs.TextSoFar.{TextSoFar, cert_added, die_added, row_added, rows_added, text_so_far, whole_text}
use Rattle.late_cert.specs.declared.certificates.Certificate.{Certificate}
use Rattle.report_texts.specs.declared.reports.DieReport.{DieReport}
use Rattle.report_texts.specs.declared.reports.ReportRow.{ReportRow}

-- the records of one die after those of others
records_after : (f : DieReport → List (List (List ℕ))) (dies : List DieReport) (die : DieReport)
    → records_text (flat_map f (dies ++ die ∷ [])) ≡ records_text (flat_map f dies) ++ records_text (f die)
records_after f dies die =
    ap records_text (flat_map-append f dies (die ∷ []) ∙ ap (λ (xs : List (List (List ℕ))). flat_map f dies ++ xs) (append-nil (f die)))
    ∙ flat_map-append (row_text default_writer) (flat_map f dies) (f die)

-- one more die
pub text_more : (dies : List DieReport) (die : DieReport) (old new : TextSoFar) → old ≡ text_so_far dies → new ≡ die_added die old
    → new ≡ text_so_far (dies ++ die ∷ [])
text_more dies die old new so_far added =
    let head = row_text default_writer header_fields in
    added ∙ (ap (die_added die) so_far ∙ λ i. record {
      rows = (append_assoc head (records_text (flat_map die_records dies)) (records_text (die_records die))
          ∙ ap (λ (xs : List ℕ). head ++ xs) (sym (records_after die_records dies die))) i;
      certs = sym (records_after cert_record dies die) i;
    })

-- one row after others
pub rows_push : (die : ℕ) (rows : List ReportRow) (row : ReportRow) (text : TextSoFar)
    → row_added die row (rows_added die rows text) ≡ rows_added die (rows ++ row ∷ []) text
rows_push die rows row text = λ i. record {
  rows = (append_assoc text.rows (records_text (map (row_fields die) rows)) (row_text default_writer (row_fields die row))
      ∙ ap (λ (xs : List ℕ). text.rows ++ xs) (pushed rows)) i;
  certs = text.certs;
}
  where
    pushed : (xs : List ReportRow) → records_text (map (row_fields die) xs) ++ row_text default_writer (row_fields die row)
        ≡ records_text (map (row_fields die) (xs ++ row ∷ []))
    pushed [] = sym (append-nil (row_text default_writer (row_fields die row)))
    pushed (x ∷ xs) =
        append_assoc (row_text default_writer (row_fields die x)) (records_text (map (row_fields die) xs)) (row_text default_writer
        (row_fields die row))
        ∙ ap (λ (ys : List ℕ). row_text default_writer (row_fields die x) ++ ys) (pushed xs)

-- one more row, of those that are left
pub rows_more : (die : ℕ) (rows : List ReportRow) (i : ℕ) (row : ReportRow) (old new whole : TextSoFar) → i < length rows
    → row ≡ get_or rows i row → new ≡ row_added die row old → rows_added die (drop i rows) old ≡ whole
    → rows_added die (drop (i + 1) rows) new ≡ whole
rows_more die rows i row old new whole below is added so_far =
    ap (rows_added die (drop (i + 1) rows)) added
    ∙ ((λ k. record {
      rows = append_assoc old.rows (row_text default_writer (row_fields die row))
          (records_text (map (row_fields die) (drop (i + 1) rows))) k;
      certs = old.certs;
    })
    ∙ (ap (λ (left : List ReportRow). rows_added die left old) (sym here) ∙ so_far))
  where
    here : drop i rows ≡ row ∷ drop (i + 1) rows
    here = drop_more rows i row below ∙ ap (λ (r : ReportRow). r ∷ drop (i + 1) rows) (sym is)

-- the certificate after the rows makes the report
pub cert_last : (report : DieReport) (cert : Certificate) (old text new : TextSoFar) → report.cert ≡ Some cert
    → text ≡ rows_added report.die report.rows old → new ≡ cert_added report.die cert text → new ≡ die_added report old
cert_last report cert old text new is rows added =
    let line = row_text default_writer (cert_fields report.die cert) in
    added
    ∙ (ap (cert_added report.die cert) rows
    ∙ ((λ i. record { rows = old.rows ++ records_text (die_records report); certs = old.certs ++ sym (append-nil line) i })
    ∙ ap (λ (c : Option Certificate). record {
      rows = old.rows ++ records_text (die_records report);
      certs = old.certs ++ records_text (cert_record_of report.die c);
    }) (sym is)))

-- the whole text of all dies
pub whole_is : (dies : List DieReport) (text : TextSoFar) → text ≡ text_so_far dies → whole_text text ≡ report_text dies
whole_is dies text so_far =
    let head = row_text default_writer header_fields in
    ap whole_text so_far
    ∙ (append_assoc head (records_text (flat_map die_records dies)) (records_text (flat_map cert_record dies))
    ∙ ap (λ (xs : List ℕ). head ++ xs) (sym (flat_map-append (row_text default_writer) (flat_map die_records dies)
    (flat_map cert_record dies))))
