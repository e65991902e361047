use Rattle.power_loss.proofs.Aside.Erases.{any_erases}
use Rattle.power_loss.proofs.losses.counts_of_erases_may_be_any.Goals as goal

pub returns : goal.returns
returns c = any_erases
