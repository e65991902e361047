use Rattle.report_texts.proofs.ReportsBack.{report_back}
use Rattle.report_texts.proofs.laws.reports_come_back.Goals as goal

pub returns : goal.returns
returns c = report_back
