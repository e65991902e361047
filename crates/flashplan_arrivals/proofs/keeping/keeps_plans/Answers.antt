use Rattle.std.proofs.Common.{List, length, ap, arith, refl}
use Rattle.std.proofs.lemmas.Option.{slice_get_read}
use Rattle.slot_types.specs.declared.plans.DiePlan.{DiePlan}
use Rattle.flashplan_arrivals.proofs.Dies.{one_more_kept, all_kept}
use Rattle.flashplan_arrivals.proofs.keeping.keeps_plans.Goals as goal

pub loop-die-preserved : goal.loop-die-preserved
loop-die-preserved c =
    one_more_kept c.args.plan.now c.args.slots c.args.text.now c.loop-die.die c.index-plans-die.result c.in_ok-events.events
    (rw c.as_slice-plans.ensures at (slice_get_read _ _ _ _ refl c.loop-die-test.true c.index-plans-die.is))
    c.in_ok-events.ensures.events (c.if-not-keeps_its_plan.ensures refl) c.loop-die.invariant

pub returns : goal.returns
returns c kept = all_kept c.args.plan.now c.args.slots c.args.text.now c.loop-die.die c.requires.some
    (omega (arith, ap (λ (plans : List DiePlan). length plans) c.as_slice-plans.ensures)) c.loop-die.invariant
