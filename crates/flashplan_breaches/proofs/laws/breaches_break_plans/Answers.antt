use Rattle.flashplan_breaches.proofs.Breaking.{breaks}
use Rattle.flashplan_breaches.proofs.laws.breaches_break_plans.Goals as goal

pub returns : goal.returns
returns c = breaks
