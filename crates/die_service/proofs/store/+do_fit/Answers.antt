use Rattle.std.proofs.Common.{arith}
use Rattle.std.proofs.lemmas.Grind.{common_steps}
use Rattle.die_service.proofs.store.+do_fit.Goals as goal

pub returns-then-eq : goal.returns-then-eq
returns-then-eq g t c = grind (arith, common_steps)

pub returns-else-eq : goal.returns-else-eq
returns-else-eq g t c = grind (arith, common_steps)

pub returns-in_default : goal.returns-in_default
returns-in_default g t c = grind (arith, common_steps)
