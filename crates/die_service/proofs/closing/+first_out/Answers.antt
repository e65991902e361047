use Rattle.std.proofs.Common.{arith}
use Rattle.std.proofs.lemmas.Grind.{common_steps}
use Rattle.die_service.proofs.closing.+first_out.Goals as goal

pub returns-in_default : goal.returns-in_default
returns-in_default g t c = grind (arith, common_steps)

pub returns-in_default-split_first_mut : goal.returns-in_default-split_first_mut
returns-in_default-split_first_mut g t c = grind (arith, common_steps)

pub out-out-requires : goal.out-out-requires
out-out-requires g t c = grind (arith, common_steps)

pub returns-then-out-gt0 : goal.returns-then-out-gt0
returns-then-out-gt0 g t c = grind (arith, common_steps)

pub returns : goal.returns
returns g t c = grind (arith, common_steps)
