-- The worst of a die's done rows, and the certificate that a record says of it.
use Rattle.std.specs.Prelude.{ℕ, ◌==◌, ◌&&◌, ◌||◌, nat_lt, not, int_lt, Bool, false, ℤ, List, [], ◌∷◌, codes, length, Option, Some, None}
use Rattle.std.specs.Prelude.{if◌then◌else◌}
use Rattle.csv.specs.Records.{field_at}
use Rattle.late_cert.specs.Schedule.{lateness_of}
use Rattle.late_cert.specs.declared.certificates.Certificate.{Certificate}
use Rattle.text_base.specs.Fields.{has_text}
use Rattle.text_base.specs.Fields.{field_or}
use Rattle.text_base.specs.Number.{number_of}
use Rattle.report_texts.specs.ReportRows.{◌>>=◌, is_late, lateness_in, number_at}
use Rattle.text_base.specs.Words.{list_of}
use Rattle.report_texts.specs.declared.report_certs.Finish.{Finish}
use Rattle.report_texts.specs.declared.reports.ReportRow.{ReportRow}

abbrev pub lateness_of_finish : Finish → ℤ
lateness_of_finish finish = lateness_of finish.completion finish.due

-- later, or as late and completed first
abbrev pub is_worse : Finish → Finish → Bool
is_worse one other = int_lt (lateness_of_finish other) (lateness_of_finish one) || (not (int_lt (lateness_of_finish one) (lateness_of_finish other)) && nat_lt one.completion other.completion)

abbrev pub finish_if : ReportRow → Option ℕ → Option Finish
finish_if row None = None
finish_if row (Some completion) = Some (record { job = row.job; due = row.due; completion = completion })

-- how a done row ended
abbrev pub finish_of : ReportRow → Option Finish
finish_of row = finish_if row row.completion

-- the worse of two, the first where neither is
abbrev pub worse_finish : Option Finish → Option Finish → Option Finish
worse_finish best None = best
worse_finish None (Some finish) = Some finish
worse_finish (Some best) (Some finish) = Some (if is_worse finish best then finish else best)

-- the worst, beginning with one
abbrev pub worst_from : Option Finish → List ReportRow → Option Finish
worst_from best [] = best
worst_from best (row ∷ rows) = worst_from (worse_finish best (finish_of row)) rows

-- the done row with the greatest lateness, of equal ones the one completed first
abbrev pub worst_of : List ReportRow → Option Finish
worst_of rows = worst_from None rows

abbrev pub is_number : Option ℕ → ℕ → Bool
is_number None n = false
is_number (Some m) n = m == n

-- whether a field says just this number
abbrev pub says : List (List ℕ) → ℕ → ℕ → Bool
says fields i n = is_number (number_at fields i) n

abbrev pub is_empty : List (List ℕ) → ℕ → Bool
is_empty fields i = length (field_or fields i) == 0

-- whether a record begins a certificate
abbrev pub is_cert : List (List ℕ) → Bool
is_cert fields = has_text (field_at fields 0) (codes "cert")

-- whether the fields of a certificate, except its start and its jobs, are those of a die's worst job
abbrev pub is_of : ℕ → Finish → List (List ℕ) → Bool
is_of die worst fields = is_cert fields && (says fields 1 die && (says fields 2 worst.job && (is_empty fields 3 && (says fields 5 worst.due
    && (is_empty fields 6 && (says fields 7 worst.completion
    && (is_late (lateness_in (field_or fields 8)) (lateness_of_finish worst) && is_empty fields 9)))))))

-- the certificate that a record says, for the worst job of a die
unfoldable pub cert_of : ℕ → Finish → List (List ℕ) → Option Certificate
cert_of die worst fields = if (length fields == 11) && is_of die worst fields then (do
  start ← number_at fields 4
  jobs ← list_of number_of (field_or fields 10)
  Some (record { job = worst.job; start = start; due = worst.due; completion = worst.completion; jobs = jobs })) else None
