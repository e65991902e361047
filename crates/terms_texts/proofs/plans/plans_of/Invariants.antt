use Rattle.std.proofs.Common.{◌≡◌, ◌++◌, drop}
use Rattle.terms_texts.specs.Plans.{plans_in}
use Rattle.terms_texts.proofs.plans.plans_of.Given as goal

abbrev pub invariant-loop-die : goal.invariant-loop-die
invariant-loop-die l = l.plans ++ plans_in (drop l.die-index l.store) ≡ plans_in l.store
