use Rattle.flashplan_labelled_parts.specs.Mounts.{WentCounting}
use Rattle.flashplan_labelled_parts.proofs.mounts.PartMount.carry_all.Given as goal

abbrev pub invariant-loop-left : goal.invariant-loop-left
invariant-loop-left l = WentCounting l.fn.self.mount l.fn.self.costs l.self.mount l.self.costs
