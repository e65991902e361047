use Rattle.std.proofs.Common.{◌+◌, take, sym, subst}
use Rattle.std.specs.List.{AllZip}
use Rattle.flashplan_fit.specs.Fits.{IsTaskOf}
use Rattle.flashplan_fit.proofs.Zips.{zip_more}
use Rattle.flashplan_fit.proofs.terms_plans.tasks_of.Goals as goal

pub loop-i-preserved : goal.loop-i-preserved
loop-i-preserved c = subst (λ l. AllZip (IsTaskOf c.args.choice.now.slot_us) (take (c.loop-i.i + 1) c.args.needs.now) l)
    (sym c.in_ok-push.ensures.ok)
    (zip_more (IsTaskOf c.args.choice.now.slot_us) c.args.needs.now c.loop-i.tasks c.loop-i.i _ c.task_of-task.result c.loop-i-test.true
    c.loop-i.invariant c.task_of-task.ensures)
