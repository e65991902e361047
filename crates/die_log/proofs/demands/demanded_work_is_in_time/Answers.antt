use Rattle.die_log.proofs.Planned.Rooms.{demanded_in_time, demanded_run_in_time}
use Rattle.die_log.proofs.demands.demanded_work_is_in_time.Goals as goal

pub returns : goal.returns
returns c = record { moments = demanded_in_time; runs = demanded_run_in_time }
