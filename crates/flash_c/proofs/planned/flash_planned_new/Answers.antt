use Rattle.std.proofs.Common.{refl}
use Rattle.slot_types.specs.declared.refusals.Refusal.TheVariants.{NoMemory}
use Rattle.planned_die.specs.declared.refusals.PlanRefusal.TheVariants.{Die}
use Rattle.ongoing_die.specs.declared.refusals.OngoingRefusal.TheVariants.{Plan}
use Rattle.flash_c.proofs.planned.flash_planned_new.Goals as goal

pub returns-in_default-clause-cause : goal.returns-in_default-clause-cause
returns-in_default-clause-cause c = λ fails. record { refusal = Plan (Die NoMemory); refuses = tt; code_is = refl; why_is = c.unasked.ensures }

pub returns-clause-cause : goal.returns-clause-cause
returns-clause-cause c = λ fails. record { refusal = Plan (Die NoMemory); refuses = tt; code_is = refl; why_is = c.unasked-in-Err-new.ensures }
