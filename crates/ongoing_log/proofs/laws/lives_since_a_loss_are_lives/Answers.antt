use Rattle.ongoing_log.proofs.Passing.{since_loss}
use Rattle.ongoing_log.proofs.laws.lives_since_a_loss_are_lives.Goals as goal

pub returns : goal.returns
returns c = record {
  ended = λ first life past passed. (since_loss first life past passed).ended;
  next = λ first life past passed. (since_loss first life past passed).starts;
}
