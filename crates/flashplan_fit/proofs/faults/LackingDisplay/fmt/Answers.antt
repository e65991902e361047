use Rattle.std.proofs.Common.{append_assoc}
use Rattle.flashplan_fit.proofs.faults.LackingDisplay.fmt.Goals as goal

pub returns-clause-writes : goal.returns-clause-writes
returns-clause-writes g c = simp append_assoc (rw c.from.ensures at c.write.ensures.writes)
