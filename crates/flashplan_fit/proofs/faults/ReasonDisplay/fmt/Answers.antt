use Rattle.std.proofs.Common.{append_assoc}
use Rattle.flashplan_fit.proofs.faults.ReasonDisplay.fmt.Goals as goal

pub returns-in-Slot-clause-writes : goal.returns-in-Slot-clause-writes
returns-in-Slot-clause-writes g c = rw c.in-Slot.is (simp append_assoc c.write-in-Slot.ensures.writes)

pub returns-in-Load-clause-writes : goal.returns-in-Load-clause-writes
returns-in-Load-clause-writes g c = rw c.in-Load.is (simp append_assoc c.write-in-Load.ensures.writes)

pub returns-in-Overfull-clause-writes : goal.returns-in-Overfull-clause-writes
returns-in-Overfull-clause-writes g c = rw c.in-Overfull.is c.write-in-Overfull.ensures.writes
