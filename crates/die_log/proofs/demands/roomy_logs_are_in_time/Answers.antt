use Rattle.die_log.proofs.Planned.Windows.{in_time}
use Rattle.die_log.proofs.demands.roomy_logs_are_in_time.Goals as goal

pub returns : goal.returns
returns c = λ start bound log exact room. in_time start log bound exact room
