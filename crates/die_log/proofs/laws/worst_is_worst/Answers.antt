use Rattle.die_log.proofs.Least.Worst.{worst_is}
use Rattle.die_log.proofs.Least.Certificates.{no_worst, nothing_done}
use Rattle.die_log.proofs.laws.worst_is_worst.Goals as goal

pub returns : goal.returns
returns c = record { none = λ plan log. (no_worst plan log, nothing_done plan log); some = worst_is }
