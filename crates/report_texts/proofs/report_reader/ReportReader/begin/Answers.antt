use Rattle.report_texts.proofs.RecordLaws.{fit-taken, hand-taken}
use Rattle.report_texts.proofs.report_reader.ReportReader.begin.Goals as goal

pub returns-clause-first : goal.returns-clause-first
returns-clause-first g c = hand-taken _ _ _ _ c.in_ok-self.ensures.takes

pub returns-clause-fits : goal.returns-clause-fits
returns-clause-fits g c = fit-taken _ _ _ c.in_ok-self.ensures.fits
