use Rattle.die_service.proofs.PlannedFeeds.{go_as_planned}
use Rattle.die_service.proofs.promised.planned_feeds_go_as_planned.Goals as goal

pub returns : goal.returns
returns c = go_as_planned
