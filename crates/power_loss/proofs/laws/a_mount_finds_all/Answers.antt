use Rattle.power_loss.proofs.Recovering.{all_after, all_during}
use Rattle.power_loss.proofs.laws.a_mount_finds_all.Goals as goal

pub returns : goal.returns
returns c = record { after = all_after; during = all_during }
