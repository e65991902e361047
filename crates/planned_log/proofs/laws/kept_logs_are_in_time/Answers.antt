use Rattle.planned_log.proofs.Kept.{is_in_time}
use Rattle.planned_log.proofs.Served.{done_in_time}
use Rattle.planned_log.proofs.laws.kept_logs_are_in_time.Goals as goal

pub returns : goal.returns
returns c = record { all = is_in_time; jobs = done_in_time }
