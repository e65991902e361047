use Rattle.power_loss.proofs.Exact.{keeps_labels}
use Rattle.power_loss.proofs.laws.exact_keeps_labels.Goals as goal

pub returns : goal.returns
returns c = keeps_labels
