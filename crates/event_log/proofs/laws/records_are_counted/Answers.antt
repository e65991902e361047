use Rattle.event_log.proofs.Counting.{records_are}
use Rattle.event_log.proofs.laws.records_are_counted.Goals as goal

pub returns : goal.returns
returns c = records_are
