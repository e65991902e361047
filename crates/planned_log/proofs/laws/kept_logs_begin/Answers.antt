use Rattle.planned_log.proofs.Kept.{begun}
use Rattle.planned_log.proofs.laws.kept_logs_begin.Goals as goal

pub returns : goal.returns
returns c = begun
