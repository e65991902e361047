use Rattle.event_log.proofs.Growing.{entries_stay}
use Rattle.event_log.proofs.laws.entries_stay.Goals as goal

pub returns : goal.returns
returns c = entries_stay
