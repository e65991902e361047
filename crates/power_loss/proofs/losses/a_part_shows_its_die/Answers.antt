use Rattle.power_loss.proofs.Aside.ComingBack.{all_known, all_shown_after, all_shown_during, none_known}
use Rattle.power_loss.proofs.losses.a_part_shows_its_die.Goals as goal

pub returns : goal.returns
returns c = record { after = all_shown_after; during = all_shown_during; none_known = none_known; all_known = all_known }
