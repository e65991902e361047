use Rattle.text_base.proofs.WritingLaws.{flag-kept-then, flag-set-then, on-error}
use Rattle.report_texts.proofs.PartWriting.{front-part, on-error-then, on-ok-then, second-part}
use Rattle.report_texts.proofs.report_writing.write_parts.Goals as goal

pub returns-in_err-write_rows-clause-part : goal.returns-in_err-write_rows-clause-part
returns-in_err-write_rows-clause-part g c =
    on-error c.from_residual.result _ (front-part _ _ _ _ c.in_err-write_rows.ensures.part)

pub returns-clause-part : goal.returns-clause-part
returns-clause-part g c =
    on-error-then c.write_certs.result _ _ (λ part. second-part _ _ _ _ _ c.in_ok-write_rows.ensures.written part)
    c.write_certs.ensures.part

pub returns-clause-works : goal.returns-clause-works
returns-clause-works g c =
    on-ok-then c.write_certs.result _ _ (flag-kept-then _ _ _ c.in_ok-write_rows.ensures.works) c.write_certs.ensures.works

pub returns-clause-failed : goal.returns-clause-failed
returns-clause-failed g c =
    on-error-then c.write_certs.result _ _ (flag-set-then _ _ _ c.in_ok-write_rows.ensures.works) c.write_certs.ensures.failed
