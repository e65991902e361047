use Rattle.std.proofs.Common.{vec_len}
use Rattle.die_service.proofs.opening.+open_each.Given as goal

abbrev pub decreases-open_each : goal.decreases-open_each
decreases-open_each g l = vec_len l.cores.now
