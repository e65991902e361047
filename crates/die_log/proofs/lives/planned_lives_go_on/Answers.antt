use Rattle.die_log.proofs.Life.Planning.{lives_go_on, next_served, all_served}
use Rattle.die_log.proofs.lives.planned_lives_go_on.Goals as goal

pub returns : goal.returns
returns c = record {
  served = all_served;
  next = next_served;
  ended = λ first times opens passes stocked all keep. (lives_go_on first times opens passes stocked all keep).ended;
  stocked = λ first times opens passes stocked all keep. (lives_go_on first times opens passes stocked all keep).stocked;
}
