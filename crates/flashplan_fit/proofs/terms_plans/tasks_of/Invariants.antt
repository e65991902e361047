use Rattle.std.proofs.Common.{take}
use Rattle.std.specs.List.{AllZip}
use Rattle.flashplan_fit.specs.Fits.{IsTaskOf}
use Rattle.flashplan_fit.proofs.terms_plans.tasks_of.Given as goal

abbrev pub invariant-loop-i : goal.invariant-loop-i
invariant-loop-i l = AllZip (IsTaskOf l.choice.slot_us) (take l.i l.needs) l.tasks
