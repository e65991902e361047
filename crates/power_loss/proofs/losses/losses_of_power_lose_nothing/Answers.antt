use Rattle.power_loss.proofs.Losing.{reads_last, knows_still, lives_hold, lives_stay, reads_untrimmed, next_after}
use Rattle.power_loss.proofs.Losing.{next_during}
use Rattle.power_loss.proofs.losses.losses_of_power_lose_nothing.Goals as goal

pub returns : goal.returns
returns c = record {
  reads = reads_last;
  holds = lives_hold;
  stays = lives_stay;
  untrimmed = reads_untrimmed;
  knows = knows_still;
  next = next_after;
  next_in_call = next_during;
}
