use Rattle.die_log.proofs.Planned.Rooms.{fitting_in_time, fitting_run_in_time}
use Rattle.die_log.proofs.demands.fitting_work_is_in_time.Goals as goal

pub returns : goal.returns
returns c = record { moments = fitting_in_time; runs = fitting_run_in_time }
