use Rattle.std.proofs.Common.{◌-◌}
use Rattle.demand_keeping.specs.Sliding.{IsSliding}
use Rattle.demand_keeping.proofs.sliding.slid.Given as goal

abbrev pub invariant-loop-next : goal.invariant-loop-next
invariant-loop-next l = IsSliding l.of.period l.of.limit l.seen l.jobs l.head l.next

abbrev pub decreases-loop-next : goal.decreases-loop-next
decreases-loop-next l = l.head - l.next.tail
