use Rattle.flash_c.proofs.Filling.{take_min}
use Rattle.flash_c.proofs.names.seen.Goals as goal

pub returns-clause-seen : goal.returns-clause-seen
returns-clause-seen c = rw c.min-count.ensures (take_min 65 c.args.ops.now)
