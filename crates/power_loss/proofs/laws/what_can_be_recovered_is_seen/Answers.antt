use Rattle.power_loss.proofs.Recovering.{shows_all, mounts_it}
use Rattle.power_loss.proofs.laws.what_can_be_recovered_is_seen.Goals as goal

pub returns : goal.returns
returns c = record { shows = shows_all; mounts = mounts_it }
