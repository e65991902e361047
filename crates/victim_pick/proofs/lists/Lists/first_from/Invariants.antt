use Rattle.victim_pick.specs.Ties.{AreEmpty}
use Rattle.victim_pick.proofs.lists.Lists.first_from.Given as goal

abbrev pub invariant-loop-count : goal.invariant-loop-count
invariant-loop-count l = AreEmpty l.fn.self.counts l.fn.least l.count
