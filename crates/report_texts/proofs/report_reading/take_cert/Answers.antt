use Rattle.std.proofs.Common.{refl, sym}
use Rattle.report_texts.proofs.RecordLaws.{reads-same}
use Rattle.report_texts.proofs.report_reading.take_cert.Goals as goal

pub returns-in_default-clause-read : goal.returns-in_default-clause-read
returns-in_default-clause-read g c = λ die is.
    (die.cert, is, λ more. reads-same _ _ _ tt (λ records. rw (sym (c.in_default.ensures die is)) refl))
