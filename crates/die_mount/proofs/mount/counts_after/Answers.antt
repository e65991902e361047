use Rattle.die_mount.proofs.Beginning.{are_counts}
use Rattle.die_mount.proofs.mount.counts_after.Goals as goal

pub returns-in-Ok-clause-fit : goal.returns-in-Ok-clause-fit
returns-in-Ok-clause-fit c = are_counts c.args.plan.now c.requires.may.0 c.requires.may.1 c.args.told.now c.args.erased c.in_default.ensures.none _ c.in-Ok.ensures.counts
