use Rattle.report_texts.proofs.RecordLaws.{fit-lost, hand-lost}
use Rattle.report_texts.proofs.report_reader.ReportReader.advance.Goals as goal

pub returns-clause-next : goal.returns-clause-next
returns-clause-next g c = hand-lost _ _ _ _ _ _ c.requires.found c.in_ok-self.ensures.takes

pub returns-clause-fits : goal.returns-clause-fits
returns-clause-fits g c = fit-lost _ _ _ _ c.requires.found c.in_ok-self.ensures.fits
