use Rattle.flash_c.proofs.Mounting.{called_on}
use Rattle.flash_c.proofs.recoveries.called.Goals as goal

pub returns-else-is_none-clause-called : goal.returns-else-is_none-clause-called
returns-else-is_none-clause-called c = λ _. called_on c.in-Calls.mount c.done.new.self c.args.recovery c.in-Calls.is c.done.ensures.step
