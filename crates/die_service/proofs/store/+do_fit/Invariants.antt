use Rattle.std.proofs.Common.{length}
use Rattle.die_service.proofs.store.+do_fit.Given as goal

abbrev pub decreases-do_fit : goal.decreases-do_fit
decreases-do_fit g l = length l.plans.now
