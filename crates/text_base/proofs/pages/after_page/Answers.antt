use Rattle.std.proofs.Common.{arith}
use Rattle.text_base.proofs.PageLaws.{begins-with-page}
use Rattle.text_base.proofs.WordLaws.{from-place}
use Rattle.text_base.proofs.pages.after_page.Goals as goal

pub returns : goal.returns
returns c =
    begins-with-page c.args.text.now _ c.greatest_value.result (omega arith) c.greatest_value.ensures (omega arith)
    (from-place c.args.text.now 32)
