-- The text of a report: its records, as csv writes them.
use Rattle.std.specs.Prelude.{ℕ, ℤ, List, [], ◌∷◌, ◌++◌, map, flat_map, codes, decimal, Option, Some, None}
use Rattle.std.specs.Fmt.{signed_decimal}
use Rattle.std.specs.List.{join_with_byte}
use Rattle.csv.specs.Writing.{default_writer, row_text}
use Rattle.slot_types.specs.declared.pages.PageData.{PageData}
use Rattle.late_cert.specs.Schedule.{lateness_of}
use Rattle.late_cert.specs.declared.certificates.Certificate.{Certificate}
use Rattle.report_texts.specs.declared.reports.DieReport.{DieReport}
use Rattle.report_texts.specs.declared.reports.ReportRow.{ReportRow}
use Rattle.report_texts.specs.declared.reports.RowKind.{RowKind}
use Rattle.report_texts.specs.declared.reports.RowKind.TheVariants as kind
use Rattle.text_base.specs.Pages.{page_word}

-- the first field of a row
abbrev pub kind_word : RowKind → List ℕ
kind_word kind.Job = codes "job"
kind_word kind.Collect = codes "collect"
kind_word kind.Waived = codes "waived"

-- a number, or nothing
abbrev pub number_field : Option ℕ → List ℕ
number_field None = []
number_field (Some n) = decimal n

abbrev pub lateness_field : Option ℤ → List ℕ
lateness_field None = []
lateness_field (Some n) = signed_decimal n

-- pages, and numbers, with one space between two
abbrev pub pages_field : List PageData → List ℕ
pages_field pages = join_with_byte 32 (map page_word pages)

abbrev pub numbers_field : List ℕ → List ℕ
numbers_field numbers = join_with_byte 32 (map decimal numbers)

abbrev pub header_fields : List (List ℕ)
header_fields = codes "row" ∷ codes "die" ∷ codes "job" ∷ codes "task" ∷ codes "release" ∷ codes "due" ∷ codes "work" ∷ codes "completion"
    ∷ codes "lateness" ∷ codes "given" ∷ codes "items" ∷ []

-- the numbers that each row of a die has
abbrev pub row_numbers : ℕ → ReportRow → List (List ℕ)
row_numbers die row = decimal die ∷ decimal row.job ∷ decimal row.task ∷ decimal row.release ∷ decimal row.due ∷ decimal row.work ∷ []

-- the record of a job or a collection of a die
abbrev pub row_fields : ℕ → ReportRow → List (List ℕ)
row_fields die row = kind_word row.row ∷ (row_numbers die row
    ++ number_field row.completion ∷ lateness_field row.lateness ∷ number_field row.given ∷ pages_field row.reads ∷ [])

-- the fields of a row between its first one and its pages
abbrev pub row_start : ℕ → ReportRow → List (List ℕ)
row_start die row = row_numbers die row ++ number_field row.completion ∷ lateness_field row.lateness ∷ number_field row.given ∷ []

-- the numbers that each certificate of a die has: its start in the place of a release
abbrev pub cert_numbers : ℕ → Certificate → List (List ℕ)
cert_numbers die cert = decimal die ∷ decimal cert.job ∷ [] ∷ decimal cert.start ∷ decimal cert.due ∷ [] ∷ decimal cert.completion ∷ []

-- the record of a die's certificate
abbrev pub cert_fields : ℕ → Certificate → List (List ℕ)
cert_fields die cert = codes "cert" ∷ (cert_numbers die cert
    ++ signed_decimal (lateness_of cert.completion cert.due) ∷ [] ∷ numbers_field cert.jobs ∷ [])

-- the records of a die's rows
abbrev pub die_records : DieReport → List (List (List ℕ))
die_records die = map (row_fields die.die) die.rows

-- the record of a die's certificate, if it has one
abbrev pub cert_record_of : ℕ → Option Certificate → List (List (List ℕ))
cert_record_of die None = []
cert_record_of die (Some cert) = cert_fields die cert ∷ []

abbrev pub cert_record : DieReport → List (List (List ℕ))
cert_record die = cert_record_of die.die die.cert

-- the records of a report: the header, the rows of all dies, and then the certificates
abbrev pub report_records : List DieReport → List (List (List ℕ))
report_records report = header_fields ∷ (flat_map die_records report ++ flat_map cert_record report)

-- records as csv writes them by default, one after the other
abbrev pub records_text : List (List (List ℕ)) → List ℕ
records_text records = flat_map (row_text default_writer) records

-- the text of a report
abbrev pub report_text : List DieReport → List ℕ
report_text report = records_text (report_records report)
