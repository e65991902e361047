use Rattle.std.proofs.Common.{get_or, arith, refl}
use Rattle.plan_rules.proofs.Zips.{zip_by, at_any, at_next}
use Rattle.flashplan_fit.specs.Fits.{IsTaskOf}
use Rattle.flashplan_fit.proofs.plan_checks.are_tasks_of.Goals as goal

pub loop-i-preserved : goal.loop-i-preserved
loop-i-preserved c k need task =
    at_next (λ i. IsTaskOf c.args.slot_us (get_or c.args.needs.now i need) (get_or c.args.tasks.now i task)) c.loop-i.i
    (λ i lt. c.loop-i.invariant i need task lt)
    (at_any (IsTaskOf c.args.slot_us) c.args.needs.now c.args.tasks.now c.loop-i.i _ need _ task c.loop-i-test.true
    (omega (arith, c.loop-i-test.true, c.if-needs-tasks.false)) (c.if-not-is_task_of.ensures refl)) k

pub returns : goal.returns
returns c h = zip_by (IsTaskOf c.args.slot_us) c.args.needs.now c.args.tasks.now (omega (arith, c.if-needs-tasks.false))
    (λ i d e lt. c.loop-i.invariant i d e (omega arith))
