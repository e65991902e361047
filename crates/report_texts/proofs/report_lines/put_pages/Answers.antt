use Rattle.report_texts.proofs.PlainFields.{joined-made}
use Rattle.text_base.specs.Pages.{page_word}
use Rattle.report_texts.proofs.report_lines.put_pages.Goals as goal

pub returns : goal.returns
returns c = joined-made page_word _ _ _ _ _ _ _ c.in-Some.ensures.cases.0 c.in_ok-put_page.ensures.ok c.put_more_pages.ensures
