use Rattle.std.specs.Prelude.{None}
use Rattle.flashplan_terms_changes.specs.Changes.{Does, FindsAlpha}
use Rattle.flashplan_terms_changes.specs.declared.plan_numbers.PlanNumber.TheVariants as number
use Rattle.flashplan_terms_changes.proofs.nearest_alpha.nearest_alpha.Given as goal

abbrev pub invariant-loop-before : goal.invariant-loop-before
invariant-loop-before l = FindsAlpha (Does l.numbers None number.Alpha) l.before l.numbers.top.alpha l.found
