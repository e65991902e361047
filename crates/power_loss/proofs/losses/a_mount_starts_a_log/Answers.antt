use Rattle.power_loss.proofs.Aside.ComingBack.{ends_beside, starts_beside}
use Rattle.power_loss.proofs.losses.a_mount_starts_a_log.Goals as goal

pub returns : goal.returns
returns c = record { starts = starts_beside; ends = ends_beside }
