use Rattle.std.proofs.Common.{subst, below_more, rules}
use Rattle.slot_types.specs.declared.plans.DiePlan.{DiePlan}
use Rattle.plan_texts.specs.Stores.{IsUsable}
use Rattle.flashplan_design.specs.Numbers.{DieDoes}
use Rattle.flashplan_design.proofs.wholes.all_do.Goals as goal

pub loop-die-preserved : goal.loop-die-preserved
loop-die-preserved c =
    let usable : IsUsable c.with_number-changed.result = search rules in
    let does : DieDoes c.args.which c.in_ok-made.made c.args.n = subst IsUsable c.with_number-changed.ensures usable in
    below_more _ _ c.loop-die.invariant (subst (λ (d : DiePlan). DieDoes c.args.which d c.args.n) c.in_ok-made.ensures.ok does)
