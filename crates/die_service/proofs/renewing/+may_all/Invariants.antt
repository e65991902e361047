use Rattle.std.proofs.Common.{length}
use Rattle.die_service.proofs.renewing.+may_all.Given as goal

abbrev pub decreases-may_all : goal.decreases-may_all
decreases-may_all g l = length l.dies.now
