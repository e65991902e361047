use Rattle.planned_log.proofs.Answered.{answered_alike, refused_alike}
use Rattle.planned_log.proofs.Bursts.{burst_alike}
use Rattle.planned_log.proofs.laws.tasks_are_answered_for_their_own_asks.Goals as goal

pub returns : goal.returns
returns c = record { refused = refused_alike; bursts = burst_alike; runs = answered_alike }
