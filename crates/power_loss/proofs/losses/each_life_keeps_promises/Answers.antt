use Rattle.power_loss.proofs.Losing.{keeps_all_promises}
use Rattle.power_loss.proofs.losses.each_life_keeps_promises.Goals as goal

pub returns : goal.returns
returns c = keeps_all_promises
