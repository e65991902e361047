use Rattle.power_loss.proofs.Aside.ComingBack.{cut_on_part}
use Rattle.power_loss.proofs.losses.a_mount_may_be_cut.Goals as goal

pub returns : goal.returns
returns c = cut_on_part
