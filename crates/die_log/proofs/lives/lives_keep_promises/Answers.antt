use Rattle.die_log.proofs.Life.Starting.{life_promises, ended_opens}
use Rattle.die_log.proofs.lives.lives_keep_promises.Goals as goal

pub returns : goal.returns
returns c = record {
  each = life_promises;
  next = ended_opens;
  room = λ first opens lives are log earlier has. (life_promises first opens lives are log earlier has).programs;
}
