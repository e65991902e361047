use Rattle.die_log.proofs.Bounds.Exact.{few_copies, bounded_work}
use Rattle.die_log.proofs.laws.collections_are_bounded.Goals as goal

pub returns : goal.returns
returns c = record { copies = few_copies; slots = bounded_work }
