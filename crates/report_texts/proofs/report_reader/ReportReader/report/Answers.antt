use Rattle.std.proofs.Common.{Ok}
use Rattle.report_texts.proofs.KeptLaws.{kept-whole}
use Rattle.report_texts.proofs.report_reader.ReportReader.report.Goals as goal

pub returns-clause-report : goal.returns-clause-report
returns-clause-report g c = (kept-whole _ (Ok c.in_ok-report.report) c.in_ok-report.ensures.kept).0

pub returns-clause-numbered : goal.returns-clause-numbered
returns-clause-numbered g c = (kept-whole _ (Ok c.in_ok-report.report) c.in_ok-report.ensures.kept).1
