use Rattle.power_loss.proofs.MountActs.{has_above, all_remount, acts_go_on, acts_are_seen}
use Rattle.power_loss.proofs.Undoing.{can_erase}
use Rattle.power_loss.proofs.laws.a_mount_keeps_all.Goals as goal

pub returns : goal.returns
returns c = record { above = has_above; erases = can_erase; remounts = all_remount; goes_on = acts_go_on; during = acts_are_seen }
