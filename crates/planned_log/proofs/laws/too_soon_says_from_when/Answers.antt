use Rattle.planned_log.proofs.Waiting.{waits_until}
use Rattle.planned_log.proofs.laws.too_soon_says_from_when.Goals as goal

pub returns : goal.returns
returns c = waits_until
