use Rattle.die_log.proofs.Renewal.{renewed_opens}
use Rattle.die_log.proofs.laws.quiet_moments_are_openings.Goals as goal

pub returns : goal.returns
returns c = renewed_opens
