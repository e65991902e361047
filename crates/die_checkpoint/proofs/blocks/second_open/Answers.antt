use Rattle.die_checkpoint.proofs.Looking.{none_open, one_open_rest}
use Rattle.die_checkpoint.proofs.blocks.second_open.Goals as goal

pub returns-in-None-clause-none : goal.returns-in-None-clause-none
returns-in-None-clause-none c = none_open c.args.pages c.args.blocks.now c.in-None.ensures.found

pub returns-in-None-open_at-clause-none : goal.returns-in-None-open_at-clause-none
returns-in-None-open_at-clause-none c =
    one_open_rest c.args.pages c.args.blocks.now c.in-Some.first c.in-Some.ensures.found c.in-None-open_at.ensures.found
