use Rattle.die_log.proofs.Life.Demanding.{lives_go_on, next_served, all_served}
use Rattle.die_log.proofs.demands.demanded_lives_go_on.Goals as goal

pub returns : goal.returns
returns c = record {
  served = all_served;
  next = next_served;
  ended = λ first terms opens passes supply full all keep. (lives_go_on first terms opens passes supply full all keep).ended;
  stocked = λ first terms opens passes supply full all keep. (lives_go_on first terms opens passes supply full all keep).stocked;
}
