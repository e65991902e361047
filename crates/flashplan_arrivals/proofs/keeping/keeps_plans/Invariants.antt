use Rattle.flashplan_arrivals.proofs.Dies.{KeepBelow}
use Rattle.flashplan_arrivals.proofs.keeping.keeps_plans.Given as goal

abbrev pub invariant-loop-die : goal.invariant-loop-die
invariant-loop-die l = KeepBelow l.plan l.slots l.text l.die
