use Rattle.die_log.proofs.Life.Wearing.{erases_counted, lives_wear}
use Rattle.die_log.proofs.lives.wear_adds_up.Goals as goal

pub returns : goal.returns
returns c = record { log = erases_counted; lives = lives_wear }
