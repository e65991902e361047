use Rattle.std.proofs.Common.{None, arith, subst}
use Rattle.flashplan_terms_changes.specs.Changes.{Does, FindsAlpha}
use Rattle.flashplan_terms_changes.specs.declared.plan_numbers.PlanNumber.TheVariants as number
use Rattle.flashplan_terms_changes.proofs.nearest_alpha.nearest_alpha.Goals as goal

pub returns-clause-found : goal.returns-clause-found
returns-clause-found c =
    let plan = c.args.numbers.now in
    subst (λ n. FindsAlpha (Does plan None number.Alpha) n plan.top.alpha c.loop-before.found)
    (omega (arith, c.loop-before-test.false, c.loop-before.auto.before-end)) c.loop-before.invariant
