use Rattle.flashplan_keeping.proofs.AllKeep.{KeepBelow}
use Rattle.flashplan_keeping.proofs.keeping.keep.Given as goal

abbrev pub invariant-loop-die : goal.invariant-loop-die
invariant-loop-die l = KeepBelow l.plan l.slots l.text l.die
