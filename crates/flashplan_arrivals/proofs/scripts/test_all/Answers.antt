use Rattle.std.proofs.Common.{refl, sym, subst, arith}
use Rattle.std.proofs.lemmas.List.{take_all}
use Rattle.std.proofs.lemmas.List.Elements.{All-more, All-same}
use Rattle.flashplan_arrivals.specs.PlannedScripts.{HasPassed}
use Rattle.flashplan_arrivals.proofs.scripts.test_all.Goals as goal

pub loop-plan-preserved : goal.loop-plan-preserved
loop-plan-preserved c =
    All-more HasPassed c.args.plans.now c.loop-plan.plan-index c.plan-item.result c.loop-plan-test.true c.loop-plan.invariant
    (subst HasPassed c.plan-item.is (c.in-Ok.ensures.passes.0 refl))

pub returns-clause-passed : goal.returns-clause-passed
returns-clause-passed c = All-same HasPassed c.args.plans.now _
    (sym (take_all c.loop-plan.plan-index c.args.plans.now (omega (arith, c.loop-plan-test.false)))) c.loop-plan.invariant
