-- The records of a report have no field that needs quotes.
use Rattle.std.proofs.Common.{ℕ, Option, Some, None, refl}
use Rattle.std.specs.Prelude.{ℤ, decimal}
use Rattle.late_cert.specs.Schedule.{lateness_of}
use Rattle.late_cert.specs.declared.certificates.Certificate.{Certificate}
use Rattle.report_texts.specs.ReportText.{kind_word, number_field, lateness_field, row_fields, cert_fields}
use Rattle.text_base.specs.Pages.{page_word}
use Rattle.report_texts.specs.declared.reports.ReportRow.{ReportRow}
use Rattle.report_texts.specs.declared.reports.RowKind.{RowKind}
use Rattle.report_texts.specs.declared.reports.RowKind.TheVariants as kind
use Rattle.report_texts.proofs.PlainFields.{IsPlain, ArePlain, plain-decimal, plain-signed, plain-encode, plain-joined}

plain-kind : (k : RowKind) → IsPlain (kind_word k)
plain-kind kind.Job = refl
plain-kind kind.Collect = refl
plain-kind kind.Waived = refl

plain-number : (n : Option ℕ) → IsPlain (number_field n)
plain-number None = refl
plain-number (Some n) = plain-decimal n

plain-lateness : (z : Option ℤ) → IsPlain (lateness_field z)
plain-lateness None = refl
plain-lateness (Some z) = plain-signed z

pub row-fields-plain : (die : ℕ) (row : ReportRow) → ArePlain (row_fields die row)
unfolding ArePlain
row-fields-plain die row = (
  plain-kind row.row,
  (
    plain-decimal die,
    (
      plain-decimal row.job,
      (
        plain-decimal row.task,
        (
          plain-decimal row.release,
          (
            plain-decimal row.due,
            (
              plain-decimal row.work,
              (
                plain-number row.completion,
                (
                  plain-lateness row.lateness,
                  (
                    plain-number row.given,
                    (plain-joined page_word row.reads (λ page. plain-encode page.0), tt),
                  ),
                ),
              ),
            ),
          ),
        ),
      ),
    ),
  ),
)

pub cert-fields-plain : (die : ℕ) (cert : Certificate) → ArePlain (cert_fields die cert)
unfolding ArePlain
cert-fields-plain die cert = (
  refl,
  (
    plain-decimal die,
    (
      plain-decimal cert.job,
      (
        refl,
        (
          plain-decimal cert.start,
          (
            plain-decimal cert.due,
            (
              refl,
              (
                plain-decimal cert.completion,
                (
                  plain-signed (lateness_of cert.completion cert.due),
                  (refl, (plain-joined decimal cert.jobs plain-decimal, tt)),
                ),
              ),
            ),
          ),
        ),
      ),
    ),
  ),
)
