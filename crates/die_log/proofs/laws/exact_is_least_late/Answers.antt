use Rattle.die_log.proofs.Least.Exact.{exact_least}
use Rattle.die_log.proofs.laws.exact_is_least_late.Goals as goal

pub returns : goal.returns
returns c = exact_least
