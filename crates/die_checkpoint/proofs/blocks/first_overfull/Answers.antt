use Rattle.die_checkpoint.proofs.Looking.{none_overfull}
use Rattle.die_checkpoint.proofs.blocks.first_overfull.Goals as goal

pub returns-in-None-clause-none : goal.returns-in-None-clause-none
returns-in-None-clause-none c = none_overfull c.args.pages c.args.blocks.now c.in-None.ensures.found
