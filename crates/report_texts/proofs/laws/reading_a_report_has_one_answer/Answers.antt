use Rattle.report_texts.proofs.OneReading.{one-reading}
use Rattle.report_texts.proofs.laws.reading_a_report_has_one_answer.Goals as goal

pub returns : goal.returns
returns c = one-reading
