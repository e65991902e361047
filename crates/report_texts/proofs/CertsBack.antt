-- The certificates of a well-formed report read as they were.
use Rattle.std.proofs.Common.{◌≡◌, ℕ, ◌+◌, ◌<◌, ◌^◌, List, [], ◌∷◌, ◌++◌, true, Option, Some, None, Ok, length, map, refl, sym, ap, ◌∙◌}
use Rattle.std.proofs.Common.{arith}
use Rattle.std.specs.Prelude.{flat_map}
use Rattle.std.specs.Ordering.{int_eq}
use Rattle.std.proofs.lemmas.Bool.{eq-eqb}
use Rattle.std.proofs.lemmas.Bool.Decides.{Decides-int_eq}
use Rattle.csv.specs.Records.{field_at}
use Rattle.late_cert.specs.Schedule.{lateness_of}
use Rattle.late_cert.specs.declared.certificates.Certificate.{Certificate}
use Rattle.report_texts.specs.ReportOf.{Reading, certs_for, certs_from}
use Rattle.report_texts.specs.ReportText.{cert_fields, cert_record, cert_record_of}
use Rattle.text_base.specs.CsvRecords.{Fields}
use Rattle.report_texts.specs.WellFormed.{AreDies, AreRows, HasCert, IsCert, finish_in, on_die}
use Rattle.report_texts.specs.Worst.{cert_of, worst_of}
use Rattle.report_texts.specs.declared.report_certs.Finish.{Finish}
use Rattle.report_texts.specs.declared.reports.DieReport.{DieReport}
use Rattle.report_texts.specs.declared.reports.ReportRow.{ReportRow}
use Rattle.report_texts.proofs.FieldsBack.{lateness-back, number-back, numbers-back}
use Rattle.report_texts.proofs.RowsBack.{bare, size-difference, sound-numbers}

-- the record of a certificate, for the job that it names
cert-back-own : (die : ℕ) (worst : Finish) (cert : Certificate) → die < 2 ^ 32 → IsCert worst cert
    → cert_of die (finish_in cert) (cert_fields die cert) ≡ Some cert
unfolding cert_of field_at
cert-back-own die worst cert small is =
    let a = number-back die small in
    let b = number-back cert.job is.job in
    let c = number-back cert.start is.start in
    let d = number-back cert.due is.due in
    let e = number-back cert.completion is.completion in
    let z = lateness_of cert.completion cert.due in
    let f = lateness-back z (size-difference cert.completion cert.due is.completion is.due) in
    let g = numbers-back cert.jobs is.jobs in
    let same : int_eq z z ≡ true = (Decides-int_eq z z).1 refl in
    rw (
      a,
      eq-eqb die die refl,
      b,
      eq-eqb cert.job cert.job refl,
      d,
      eq-eqb cert.due cert.due refl,
      e,
      eq-eqb cert.completion
          cert.completion refl,
      f,
      same,
      c,
      g,
    ) refl

cert-back : (die : ℕ) (worst : Finish) (cert : Certificate) → die < 2 ^ 32 → IsCert worst cert → cert_of die worst (cert_fields die cert)
    ≡ Some cert
cert-back die worst cert small is = ap (λ w. cert_of die w (cert_fields die cert)) is.worst ∙ cert-back-own die worst cert small is

-- a die's certificate, if it has one, and then the others
die-cert : (die : DieReport) (more : ℕ → List Fields → Reading) (rest : List Fields) (line : ℕ) (worst : Option Finish)
    (cert : Option Certificate) (dies : List DieReport)
    → die.cert ≡ cert → die.die < 2 ^ 32 → HasCert worst cert → ((next : ℕ) → more next rest ≡ Ok dies)
    → certs_for (bare die) more worst line (cert_record_of die.die cert ++ rest) ≡ Ok (die ∷ dies)
die-cert die more rest line None None dies is small has others = rw (others line)
    (ap (λ (c : Option Certificate). let d : DieReport = record { die = die.die; rows = die.rows; cert = c } in Ok (d ∷ dies)) (sym is))
die-cert die more rest line None (Some cert) dies is small has others = absurd has
die-cert die more rest line (Some worst) None dies is small has others = absurd has
die-cert die more rest line (Some worst) (Some cert) dies is small has others =
    rw (cert-back die.die worst cert small has, others (line + 1))
    (ap (λ (c : Option Certificate). let d : DieReport = record { die = die.die; rows = die.rows; cert = c } in Ok (d ∷ dies)) (sym is))

die-fits : (die n : ℕ) (rows : List ReportRow) → 0 < length rows → AreRows die n rows → die < 2 ^ 32
die-fits die n [] some are = absurd (omega arith)
die-fits die n (row ∷ rows) some are =
    let numbers = sound-numbers (on_die die row) are.0.sound in
    omega (arith, numbers.die)

pub certs-back : (dies : List DieReport) (low line : ℕ) → AreDies low dies → certs_from (map bare dies) line (flat_map cert_record dies)
    ≡ Ok dies
unfolding certs_from
certs-back [] low line are = refl
certs-back (die ∷ dies) low line are =
    die-cert die (certs_from (map bare dies)) (flat_map cert_record dies) line (worst_of die.rows) die.cert dies refl
    (die-fits die.die 0 die.rows are.1.some_rows are.1.rows) are.1.cert
    (λ next. certs-back dies (die.die + 1) next are.2)
