use Rattle.die_checkpoint.proofs.Looking.{none_astray}
use Rattle.die_checkpoint.proofs.pages.first_astray.Goals as goal

pub returns-in-None-clause-none : goal.returns-in-None-clause-none
returns-in-None-clause-none c = none_astray c.args.blocks.now c.args.places.now c.in-None.ensures.found
