use Rattle.power_loss.proofs.Recovering.{log_recoverable, log_seen}
use Rattle.power_loss.proofs.Seeing.{placed_during}
use Rattle.power_loss.proofs.laws.logs_can_be_recovered.Goals as goal

pub returns : goal.returns
returns c = record {
  after = log_recoverable;
  seen = log_seen;
  during = λ start first bound labelled e past exact seen w. placed_during start bound first e past exact seen w;
}
