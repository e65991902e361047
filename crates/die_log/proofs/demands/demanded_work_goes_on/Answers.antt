use Rattle.die_log.proofs.Restocking.{goes_on}
use Rattle.die_log.proofs.demands.demanded_work_goes_on.Goals as goal

pub returns : goal.returns
returns c = goes_on
