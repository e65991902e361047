use Rattle.die_log.proofs.Least.Exact.{least_keys}
use Rattle.die_log.proofs.laws.exact_carries_least_keys.Goals as goal

pub returns : goal.returns
returns c = least_keys
