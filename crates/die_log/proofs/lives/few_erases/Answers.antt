use Rattle.die_log.proofs.Life.FewErases.{few_erases, few_of_block, lives_few}
use Rattle.die_log.proofs.lives.few_erases.Goals as goal

pub returns : goal.returns
returns c = record { log = few_erases; block = few_of_block; lives = lives_few }
