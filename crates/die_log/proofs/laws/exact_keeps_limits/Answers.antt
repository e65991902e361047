use Rattle.die_log.proofs.Limits.{keeps_limits}
use Rattle.die_log.proofs.laws.exact_keeps_limits.Goals as goal

pub returns : goal.returns
returns c = keeps_limits
