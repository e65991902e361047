use Rattle.die_log.proofs.Supply.Earlier.{stocked_before}
use Rattle.die_log.proofs.demands.stocked_starts_stay_stocked.Goals as goal

pub returns : goal.returns
returns c = stocked_before
