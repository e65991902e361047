use Rattle.die_log.proofs.Planned.InTime.{planned_in_time, run_in_time}
use Rattle.die_log.proofs.laws.planned_work_is_in_time.Goals as goal

pub returns : goal.returns
returns c = record { moments = planned_in_time; runs = run_in_time }
