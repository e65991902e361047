use Rattle.die_service.proofs.Promising.{seen_promised, beginning_promised}
use Rattle.die_service.proofs.promised.seen_keeps_promises.Goals as goal

pub returns : goal.returns
returns c = record { seen = seen_promised; beginnings = beginning_promised }
