use Rattle.power_loss.proofs.Losing.{all_renewed, renewed_follows}
use Rattle.power_loss.proofs.losses.renewals_are_lives.Goals as goal

pub returns : goal.returns
returns c = record { lives = all_renewed; next = renewed_follows }
