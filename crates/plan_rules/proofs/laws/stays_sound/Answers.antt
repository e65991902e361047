use Rattle.std.proofs.Common.{arith}
use Rattle.std.proofs.lemmas.Grind.{common_steps}
use Rattle.std.proofs.Common.{refl}
use Rattle.plan_rules.proofs.Totals.{few_free, opening_sound}
use Rattle.plan_rules.proofs.laws.stays_sound.Goals as goal

pub returns-clause-few : goal.returns-clause-few
returns-clause-few c = few_free

pub returns-clause-opening : goal.returns-clause-opening
returns-clause-opening c = λ plan bound. opening_sound plan _ _ _ _ bound refl refl refl refl

pub returns-clause-admitted : goal.returns-clause-admitted
returns-clause-admitted c = grind (arith, common_steps)

pub returns-clause-hold_spent : goal.returns-clause-hold_spent
returns-clause-hold_spent c = grind (arith, common_steps)

pub returns-clause-reserve_spent : goal.returns-clause-reserve_spent
returns-clause-reserve_spent c = grind (arith, common_steps)

pub returns-clause-settled : goal.returns-clause-settled
returns-clause-settled c = grind (arith, common_steps)

pub returns-clause-waived : goal.returns-clause-waived
returns-clause-waived c = grind (arith, common_steps)
