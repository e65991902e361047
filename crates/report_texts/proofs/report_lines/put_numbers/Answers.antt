use Rattle.std.specs.Prelude.{decimal}
use Rattle.report_texts.proofs.PlainFields.{joined-made}
use Rattle.report_texts.proofs.report_lines.put_numbers.Goals as goal

pub returns : goal.returns
returns c = joined-made decimal _ _ _ _ _ _ _ c.in-Some.ensures.cases.0 (rw c.first.view_is at c.in_ok-put_number.ensures)
    c.put_more_numbers.ensures
