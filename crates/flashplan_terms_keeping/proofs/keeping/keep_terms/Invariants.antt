use Rattle.flashplan_terms_keeping.specs.Verdicts.{KeepsBelow}
use Rattle.flashplan_terms_keeping.proofs.keeping.keep_terms.Given as goal

abbrev pub invariant-loop-die : goal.invariant-loop-die
invariant-loop-die l = KeepsBelow l.store l.slots l.text l.die
