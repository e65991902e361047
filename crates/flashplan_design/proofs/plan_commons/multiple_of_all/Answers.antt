use Rattle.std.proofs.Common.{subst, arith}
use Rattle.slot_types.specs.declared.plans.DiePlan.{DiePlan}
use Rattle.plan_texts.specs.Stores.{die_of}
use Rattle.flashplan_design.specs.Commons.{DividesAll, IsMultipleOfTimes}
use Rattle.flashplan_design.proofs.DieCommons.{next_common}
use Rattle.flashplan_design.proofs.plan_commons.multiple_of_all.Goals as goal

pub loop-die-preserved : goal.loop-die-preserved
loop-die-preserved c =
    let d : DividesAll (IsMultipleOfTimes c.loop-die.common (die_of c.args.plan.now c.loop-die.die).times) c.in-Some.multiple
    = subst (λ (p : DiePlan). DividesAll (IsMultipleOfTimes c.loop-die.common p.times) c.in-Some.multiple) c.in_ok-made.ensures.ok c.in-Some.ensures in
    record {
      some = d.some;
      few = d.few;
      own = next_common c.args.plan.now c.loop-die.common c.in-Some.multiple c.loop-die.die d.own.0 d.own.1 c.loop-die.invariant.own;
      all = λ n all. d.all n (c.loop-die.invariant.all n (λ e lt. all e (omega (arith, lt))), all c.loop-die.die (omega arith));
    }
