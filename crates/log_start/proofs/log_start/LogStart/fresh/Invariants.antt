use Rattle.die_log.specs.Model.Start.{fresh}
use Rattle.log_start.proofs.log_start.LogStart.fresh.Given as goal

abbrev pub ghost-beside : goal.ghost-beside
ghost-beside a = fresh a._plan.now
