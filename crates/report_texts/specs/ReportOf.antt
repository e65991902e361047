-- The report of a text, or the number of the first record that breaks it.
use Rattle.std.specs.Prelude.{◌≡◌, ◌⊎◌, ◌==◌, ◌&&◌, ℕ, ◌+◌, nat_lt, ⊤, Bool, List, [], ◌∷◌, ◌++◌, length, Option, Some, None, Result, Ok}
use Rattle.std.specs.Prelude.{Err, if◌then◌else◌}
use Rattle.late_cert.specs.declared.certificates.Certificate.{Certificate}
use Rattle.slot_types.specs.declared.refusals.Refusal.{Refusal}
use Rattle.slot_types.specs.declared.refusals.Refusal.TheVariants.{ReportText}
use Rattle.report_texts.specs.ReportHeader.{is_report_header}
use Rattle.text_base.specs.Readings.{IsOutside}
use Rattle.report_texts.specs.ReportRows.{◌>>=◌, sound_row}
use Rattle.text_base.specs.CsvRecords.{Fields, rows_of}
use Rattle.report_texts.specs.Worst.{cert_of, is_cert, worst_of}
use Rattle.report_texts.specs.declared.report_certs.Finish.{Finish}
use Rattle.report_texts.specs.declared.report_rows.DieRow.{DieRow}
use Rattle.report_texts.specs.declared.reports.DieReport.{DieReport}
use Rattle.report_texts.specs.declared.reports.ReportRow.{ReportRow}

-- the dies of a report, or the refusal of its text
abbrev pub Reading : Type 0
Reading = Result (List DieReport) Refusal

-- the record of this number breaks the report
abbrev pub broken_at : ℕ → Reading
broken_at line = Err (ReportText line)

-- one die, and then the others
abbrev pub with_die : DieReport → Reading → Reading
with_die die (Ok dies) = Ok (die ∷ dies)
with_die die (Err e) = Err e

-- The rows

-- a die's rows, still without a certificate
abbrev pub report_on : ℕ → List ReportRow → DieReport
report_on die rows = record { die = die; rows = rows; cert = None }

-- the rows so far: the dies that are done with, and the last with its rows so far
pub record Gathered : Type 0 where
  pub done : List DieReport
  pub die : ℕ
  pub rows : List ReportRow

-- these dies, and the last if it has rows
abbrev pub with_last : {D : Type 0} → List D → ℕ → D → List D
with_last done rows last = done ++ (if rows == 0 then [] else last ∷ [])

-- the dies so far
abbrev pub all_dies : Gathered → List DieReport
all_dies g = with_last g.done (length g.rows) (report_on g.die g.rows)

-- no row yet
abbrev pub no_rows : Gathered
no_rows = record { done = []; die = 0; rows = [] }

-- whether a row may come next where the last die is `die` and has `rows` rows: the next number of that die, or number 0
-- of a later one
abbrev pub comes_next : ℕ → ℕ → DieRow → Bool
comes_next die rows x = if x.die == die then x.row.job == rows else nat_lt die x.die && (x.row.job == 0)

abbrev pub may_follow : Gathered → DieRow → Bool
may_follow g x = comes_next g.die (length g.rows) x

abbrev pub with_row : Gathered → DieRow → Gathered
with_row g x =
    if x.die == g.die then record g { rows = g.rows ++ x.row ∷ [] }
    else record { done = all_dies g; die = x.die; rows = x.row ∷ [] }

abbrev pub if_follows : Gathered → DieRow → Option Gathered
if_follows g x = if may_follow g x then Some (with_row g x) else None

-- what is gathered with one more record, if it may come next
abbrev pub gathered_with : Gathered → Fields → Option Gathered
gathered_with g fields = sound_row fields >>= if_follows g

-- The certificates

abbrev pub with_cert : DieReport → Certificate → DieReport
with_cert die cert = record die { cert = Some cert }

-- the certificate of a die, and then what follows
abbrev pub then_certs : DieReport → ℕ → Reading → Option Certificate → Reading
then_certs die line more None = broken_at line
then_certs die line more (Some cert) = with_die (with_cert die cert) more

-- a die without a done row has no certificate, any other one for its worst job
abbrev pub certs_for : DieReport → (ℕ → List Fields → Reading) → Option Finish → ℕ → List Fields → Reading
certs_for die more None line records = with_die die (more line records)
certs_for die more (Some worst) line [] = broken_at line
certs_for die more (Some worst) line (fields ∷ rest) = then_certs die line (more (line + 1) rest) (cert_of die.die worst fields)

-- the certificates of these dies, from the record of this number on, and no record after them
unfoldable pub certs_from : List DieReport → ℕ → List Fields → Reading
certs_from [] line [] = Ok []
certs_from [] line (fields ∷ rest) = broken_at line
certs_from (die ∷ dies) line records = certs_for die (certs_from dies) (worst_of die.rows) line records

-- The report

-- what is gathered, and then what follows
abbrev pub then_rows : ℕ → (Gathered → Reading) → Option Gathered → Reading
then_rows line more None = broken_at line
then_rows line more (Some g) = more g

-- the rows from the record of this number on, and then the certificates
unfoldable pub rows_from : Gathered → ℕ → List Fields → Reading
rows_from g line [] = certs_from (all_dies g) line []
rows_from g line (fields ∷ rest) =
    if is_cert fields then certs_from (all_dies g) line (fields ∷ rest)
    else then_rows line (λ more. rows_from more (line + 1) rest) (gathered_with g fields)

-- the header, and then the rows
abbrev pub report_from : List Fields → Reading
report_from [] = broken_at 1
report_from (fields ∷ rest) = if is_report_header fields then rows_from no_rows 2 rest else broken_at 1

-- the report of a text, or its first fault
abbrev pub report_of : List ℕ → Reading
report_of text = report_from (rows_of text)

-- What calls read

-- a call read from these records on: what they said, those that are left say after what it gave
abbrev pub Reads : {A : Type 0} → (List Fields → Reading) → (A → List Fields → Reading) → Option (List Fields) → Option (List Fields)
    → Result A Refusal → Type 0
Reads before after None new result = ⊤
Reads before after (Some records) new (Ok x) = (rest : List Fields) × (new ≡ Some rest) × (before records ≡ after x rest)
Reads before after (Some records) new (Err e) = IsOutside e ⊎ (before records ≡ Err e)

-- a call gave the known reading of a text, if memory and the reader didn't fail
abbrev pub Says : Option Reading → Reading → Type 0
Says None result = ⊤
Says (Some reading) (Ok report) = reading ≡ Ok report
Says (Some reading) (Err e) = IsOutside e ⊎ (reading ≡ Err e)
