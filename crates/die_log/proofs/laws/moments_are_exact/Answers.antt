use Rattle.die_log.proofs.Exact.{moment_exact}
use Rattle.die_log.proofs.laws.moments_are_exact.Goals as goal

pub returns : goal.returns
returns c = moment_exact
