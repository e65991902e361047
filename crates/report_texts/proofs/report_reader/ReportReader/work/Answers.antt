use Rattle.std.proofs.Common.{Ok}
use Rattle.report_texts.proofs.WorkLaws.{kept-work}
use Rattle.report_texts.proofs.report_reader.ReportReader.work.Goals as goal

pub returns-clause-work : goal.returns-clause-work
returns-clause-work g c = (kept-work _ (Ok c.in_ok-work.work) c.in_ok-work.ensures.kept).0

pub returns-clause-rise : goal.returns-clause-rise
returns-clause-rise g c = (kept-work _ (Ok c.in_ok-work.work) c.in_ok-work.ensures.kept).1
