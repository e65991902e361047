use Rattle.planned_log.proofs.Kept.{slot_accepted, slot_goes_on}
use Rattle.planned_log.proofs.laws.slots_are_accepted.Goals as goal

pub returns : goal.returns
returns c = record { accepted = slot_accepted; kept = slot_goes_on }
