use Rattle.die_log.proofs.Legal.Exact.{exact_legal}
use Rattle.die_log.proofs.laws.exact_is_legal.Goals as goal

pub returns : goal.returns
returns c = exact_legal
