use Rattle.text_base.proofs.WriterEnds.{one_end}
use Rattle.report_texts.proofs.laws.writing_a_report_has_one_answer.Goals as goal

pub returns : goal.returns
returns g c = one_end g.W.Write.contents g.W.Output.has_failed
