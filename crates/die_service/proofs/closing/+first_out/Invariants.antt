use Rattle.std.proofs.Common.{length}
use Rattle.die_service.proofs.closing.+first_out.Given as goal

abbrev pub decreases-first_out : goal.decreases-first_out
decreases-first_out g l = length l.dies.now
