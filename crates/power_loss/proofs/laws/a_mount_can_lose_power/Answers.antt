use Rattle.power_loss.proofs.Again.{cut_again, cut_in_acts, in_first_erase}
use Rattle.power_loss.proofs.laws.a_mount_can_lose_power.Goals as goal

pub returns : goal.returns
returns c = record { in_erase = in_first_erase; in_acts = cut_in_acts; again = cut_again }
