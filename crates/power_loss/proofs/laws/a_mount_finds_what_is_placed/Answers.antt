use Rattle.power_loss.proofs.Recovering.{placed_after, placed_during}
use Rattle.power_loss.proofs.laws.a_mount_finds_what_is_placed.Goals as goal

pub returns : goal.returns
returns c = record { after = placed_after; during = placed_during }
