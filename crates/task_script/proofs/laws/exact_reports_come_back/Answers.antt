use Rattle.task_script.proofs.ExactReports.{reports_are_well_formed}
use Rattle.task_script.proofs.ExactBack.{exact_back}
use Rattle.task_script.proofs.laws.exact_reports_come_back.Goals as goal

pub returns-clause-formed : goal.returns-clause-formed
returns-clause-formed c = reports_are_well_formed

pub returns-clause-read : goal.returns-clause-read
returns-clause-read c = exact_back
