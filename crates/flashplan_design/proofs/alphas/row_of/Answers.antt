use Rattle.std.proofs.Common.{refl, subst}
use Rattle.plan_rules.specs.Times.{Passes, PassesItsTimes}
use Rattle.slot_types.specs.declared.plans.DiePlan.{DiePlan}
use Rattle.flashplan_design.proofs.Scaling.{any_logical_passes, if_there}
use Rattle.flashplan_design.proofs.alphas.row_of.Goals as goal

pub returns-clause-passes : goal.returns-clause-passes
returns-clause-passes c =
    let plan : DiePlan = c.greatest_logical.new.plan in
    let most = c.in_ok-logical.logical in
    let passes = c.plan_test.ensures.passes.0 (rw c.in-Ok.is refl) in
    subst PassesItsTimes c.greatest_logical.ensures.plan
    (any_logical_passes plan most plan.logical (if_there (Passes (record plan { logical = most })) plan.times passes))
