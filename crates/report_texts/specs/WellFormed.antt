-- The reports that are read back from their text.
use Rattle.std.specs.Prelude.{◌≡◌, ℕ, ◌+◌, ◌<◌, ◌≤◌, ◌^◌, ⊤, true, List, [], ◌∷◌, length, Option, Some, None, IfSome, All}
use Rattle.late_cert.specs.declared.certificates.Certificate.{Certificate}
use Rattle.report_texts.specs.ReportRows.{is_sound}
use Rattle.report_texts.specs.Worst.{worst_of}
use Rattle.report_texts.specs.declared.report_certs.Finish.{Finish}
use Rattle.report_texts.specs.declared.report_rows.DieRow.{DieRow}
use Rattle.report_texts.specs.declared.reports.DieReport.{DieReport}
use Rattle.report_texts.specs.declared.reports.ReportRow.{ReportRow}
use Rattle.text_base.specs.Pages.{IsPage}

abbrev pub on_die : ℕ → ReportRow → DieRow
on_die die row = record { die = die; row = row }

-- a row that has this number on this die, with its numbers within their limits and its fields filled as they should be
pub record IsRow (die n : ℕ) (row : ReportRow) : Type 0 where
  pub sound : is_sound (on_die die row) ≡ true
  pub number : row.job ≡ n
  pub work : row.work < 2 ^ 32
  pub given : IfSome row.given (λ given. given < 2 ^ 32)
  pub reads : All IsPage row.reads

-- the rows of a die have the numbers from this one on
abbrev pub AreRows : ℕ → ℕ → List ReportRow → Type 0
AreRows die number [] = ⊤
AreRows die number (row ∷ rows) = IsRow die number row × AreRows die (number + 1) rows

-- how the job of a certificate ended
abbrev pub finish_in : Certificate → Finish
finish_in cert = record { job = cert.job; due = cert.due; completion = cert.completion }

-- the certificate of a worst job, with its numbers within their limits
pub record IsCert (worst_job : Finish) (cert : Certificate) : Type 0 where
  pub worst : worst_job ≡ finish_in cert
  pub job : cert.job < 2 ^ 32
  pub due : cert.due < 2 ^ 32
  pub completion : cert.completion < 2 ^ 32
  pub start : cert.start < 2 ^ 32
  pub jobs : All (λ n. n < 2 ^ 32) cert.jobs

-- there is a certificate exactly where something is done
abbrev pub HasCert : Option Finish → Option Certificate → Type 0
HasCert None None = ⊤
HasCert None (Some cert) = ⊥
HasCert (Some worst) None = ⊥
HasCert (Some worst) (Some cert) = IsCert worst cert

-- a die's rows have the numbers 0, 1, 2, .., and it has the certificate of its worst job
pub record IsDie (die : DieReport) : Type 0 where
  pub some_rows : 0 < length die.rows
  pub rows : AreRows die.die 0 die.rows
  pub cert : HasCert (worst_of die.rows) die.cert

-- the dies rise, from this number on
abbrev pub AreDies : ℕ → List DieReport → Type 0
AreDies low [] = ⊤
AreDies low (die ∷ dies) = (low ≤ die.die) × IsDie die × AreDies (die.die + 1) dies

-- a report whose dies rise, with what is asked of each
abbrev pub IsReport : List DieReport → Type 0
IsReport report = AreDies 0 report
