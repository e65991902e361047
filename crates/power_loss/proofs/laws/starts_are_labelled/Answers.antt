use Rattle.power_loss.proofs.Opening.{fresh_labelled, renewed_labelled}
use Rattle.power_loss.proofs.laws.starts_are_labelled.Goals as goal

pub returns : goal.returns
returns c = record { fresh = fresh_labelled; renewed = renewed_labelled }
