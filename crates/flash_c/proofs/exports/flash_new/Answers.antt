use Rattle.std.proofs.Common.{refl}
use Rattle.slot_types.specs.declared.refusals.Refusal.TheVariants.{NoMemory}
use Rattle.flash_c.proofs.exports.flash_new.Goals as goal

-- there was no memory for the box
pub returns-clause-cause : goal.returns-clause-cause
returns-clause-cause c = λ fails. record { refusal = NoMemory; refuses = tt; code_is = refl }
