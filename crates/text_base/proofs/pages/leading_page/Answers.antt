use Rattle.text_base.proofs.StartLaws.{page-starts}
use Rattle.text_base.proofs.WordLaws.{from-place}
use Rattle.text_base.proofs.pages.leading_page.Goals as goal

pub returns : goal.returns
returns c = rw (from-place c.args.text.now 32) (page-starts c.args.text.now c.in_ok-page.page c.in_ok-page.ensures)
