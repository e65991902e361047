use Rattle.power_loss.proofs.Losing.{next_terms, next_times}
use Rattle.power_loss.proofs.losses.next_lives_are_stocked.Goals as goal

pub returns : goal.returns
returns c = record { terms = next_terms; times = next_times }
