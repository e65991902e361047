use Rattle.text_base.proofs.OpStarts.{trim-starts}
use Rattle.text_base.proofs.ops.leading_trim.Goals as goal

pub returns : goal.returns
returns c = trim-starts c.args.text.now c.in_ok-page.rest.now c.in_ok-page.page c.in_ok-page.ensures
