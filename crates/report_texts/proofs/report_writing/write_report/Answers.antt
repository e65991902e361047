use Rattle.report_texts.proofs.TextParts.{whole_is}
use Rattle.report_texts.proofs.report_writing.write_report.Goals as goal

pub returns-clause-part : goal.returns-clause-part
returns-clause-part g c is =
    rw (whole_is c.args.report.now _ c.in_ok-text.ensures.text) at (rw is at c.write.ensures.part)
