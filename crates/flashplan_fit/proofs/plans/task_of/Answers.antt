use Rattle.std.proofs.Common.{arith, refl}
use Rattle.flashplan_fit.proofs.plans.task_of.Goals as goal

pub returns : goal.returns
returns c = c.in_slots-wanted.ensures _ (omega (arith, c.min.ensures, c.min-period.ensures))
    (omega (arith, c.min.ensures, c.min-period.ensures)) refl refl
