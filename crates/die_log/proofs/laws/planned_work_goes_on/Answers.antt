use Rattle.die_log.proofs.Restocked.{goes_on}
use Rattle.die_log.proofs.laws.planned_work_goes_on.Goals as goal

pub returns : goal.returns
returns c = goes_on
