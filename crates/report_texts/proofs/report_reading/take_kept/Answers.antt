use Rattle.std.proofs.Common.{◌≡◌, ◌∙◌, Err, rules}
use Rattle.report_texts.specs.ReportOf.{report_from}
use Rattle.report_texts.proofs.KeptLaws.{kept-first, kept-then, says-first, says-refused, says-stop}
use Rattle.report_texts.proofs.ReaderFaults.{fails-then}
use Rattle.report_texts.proofs.RecordLaws.{fit-on, stays-then}
use Rattle.report_texts.proofs.report_reading.take_kept.Goals as goal

pub returns-in_err-take_header-clause-kept : goal.returns-in_err-take_header-clause-kept
returns-in_err-take_header-clause-kept g c =
    let refused : c.from_residual-in_err-take_header.result ≡ Err c.in_err-take_header.field-0.0 = search rules in
    rw refused (says-first report_from _ _ (Err c.in_err-take_header.field-0.0) c.in_ok-begin.ensures.first
    (says-refused _ _ _ _ _ c.in_err-take_header.ensures.read))

pub returns-in_err-dies-clause-kept : goal.returns-in_err-dies-clause-kept
returns-in_err-dies-clause-kept g c =
    let refused : c.from_residual-in_err-dies.result ≡ Err c.in_err-dies.field-0.0 = search rules in
    rw refused (says-first report_from _ _ (Err c.in_err-dies.field-0.0) c.in_ok-begin.ensures.first
    (says-stop report_from _ _ _ _ _ _ c.in_err-dies.field-0.0 c.in_ok-take_header.ensures.read c.in_err-dies.ensures.read))

pub returns-clause-kept : goal.returns-clause-kept
returns-clause-kept g c =
    let (dies, are, numbered, read) = c.in_ok-dies.ensures.read in
    kept-first _ report_from _ _ c.take_certs.result c.in_ok-begin.ensures.first
    (kept-then _ report_from _ _ _ _ _ c.in_ok-take_header.ensures.read
    (kept-then _ _ _ _ _ dies _ read (c.take_certs.ensures.kept dies are numbered)))

pub returns-clause-fits : goal.returns-clause-fits
returns-clause-fits g c =
    fit-on c.take_certs.result _ _ (stays-then _ _ _ c.in_ok-begin.ensures.fits
    (stays-then _ _ _ c.in_ok-take_header.ensures.fits c.in_ok-dies.ensures.fits)) c.take_certs.ensures.fits

pub returns-clause-failed : goal.returns-clause-failed
returns-clause-failed g c =
    fails-then _ _ _ c.take_certs.result (c.in_ok-dies.ensures.failed ∙ c.in_ok-take_header.ensures.failed ∙ c.in_ok-begin.ensures.failed)
    c.take_certs.ensures.failed
