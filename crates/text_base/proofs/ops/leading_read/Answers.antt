use Rattle.text_base.proofs.OpStarts.{read-starts}
use Rattle.text_base.proofs.ops.leading_read.Goals as goal

pub returns : goal.returns
returns c = read-starts c.args.text.now c.in_ok-page.rest.now c.in_ok-page.page c.in_ok-page.ensures
