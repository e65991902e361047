use Rattle.planned_log.proofs.Numbers.{few_as_slots}
use Rattle.planned_log.proofs.laws.lives_have_no_more_arrivals_than_slots.Goals as goal

pub returns : goal.returns
returns c = few_as_slots
