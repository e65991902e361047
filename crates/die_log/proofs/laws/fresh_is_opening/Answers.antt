use Rattle.die_log.proofs.Openings.{fresh_opens, fresh_stocked}
use Rattle.die_log.proofs.laws.fresh_is_opening.Goals as goal

pub returns : goal.returns
returns c = record { opens = fresh_opens; stocked = fresh_stocked }
