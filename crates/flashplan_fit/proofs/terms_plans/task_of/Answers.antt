use Rattle.std.proofs.Common.{arith, refl}
use Rattle.flashplan_fit.proofs.terms_plans.task_of.Goals as goal

pub returns : goal.returns
returns c = c.in_slots-wanted.ensures _ (omega arith) (omega arith) refl refl
