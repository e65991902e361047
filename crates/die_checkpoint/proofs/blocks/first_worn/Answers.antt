use Rattle.die_checkpoint.proofs.Looking.{none_worn}
use Rattle.die_checkpoint.proofs.blocks.first_worn.Goals as goal

pub returns-in-None-clause-none : goal.returns-in-None-clause-none
returns-in-None-clause-none c = none_worn c.args.blocks.now c.in-None.ensures.found
