-- The text of a report while it is made.
use Rattle.std.specs.Prelude.{ℕ, List, [], ◌∷◌, ◌++◌, map, flat_map}
use Rattle.csv.specs.Writing.{default_writer, row_text}
use Rattle.late_cert.specs.declared.certificates.Certificate.{Certificate}
use Rattle.report_texts.specs.ReportText.{cert_fields, cert_record, die_records, header_fields, records_text, row_fields}
use Rattle.report_texts.specs.declared.reports.DieReport.{DieReport}
use Rattle.report_texts.specs.declared.reports.ReportRow.{ReportRow}

-- the header and the rows, and apart from them the certificates, which stand after all rows
pub record TextSoFar : Type 0 where
  pub rows : List ℕ
  pub certs : List ℕ

abbrev pub rows_added : ℕ → List ReportRow → TextSoFar → TextSoFar
rows_added die rows text = record { rows = text.rows ++ records_text (map (row_fields die) rows); certs = text.certs }

abbrev pub row_added : ℕ → ReportRow → TextSoFar → TextSoFar
row_added die row text = record { rows = text.rows ++ row_text default_writer (row_fields die row); certs = text.certs }

abbrev pub cert_added : ℕ → Certificate → TextSoFar → TextSoFar
cert_added die cert text = record { rows = text.rows; certs = text.certs ++ row_text default_writer (cert_fields die cert) }

-- the rows of a die, and its certificate if it has one
abbrev pub die_added : DieReport → TextSoFar → TextSoFar
die_added die text = record { rows = text.rows ++ records_text (die_records die); certs = text.certs ++ records_text (cert_record die) }

-- the header, and what these dies add
abbrev pub text_so_far : List DieReport → TextSoFar
text_so_far dies = record {
  rows = records_text (header_fields ∷ flat_map die_records dies);
  certs = records_text (flat_map cert_record dies);
}

abbrev pub whole_text : TextSoFar → List ℕ
whole_text text = text.rows ++ text.certs

-- Parts of a text, each made by itself

abbrev pub no_lines : TextSoFar
no_lines = record { rows = []; certs = [] }

abbrev pub rows_of_parts : List TextSoFar → List ℕ
rows_of_parts parts = flat_map (λ (part : TextSoFar). part.rows) parts

abbrev pub certs_of_parts : List TextSoFar → List ℕ
certs_of_parts parts = flat_map (λ (part : TextSoFar). part.certs) parts

-- the rows of all parts, and after them their certificates
abbrev pub joined_text : List TextSoFar → List ℕ
joined_text parts = rows_of_parts parts ++ certs_of_parts parts
