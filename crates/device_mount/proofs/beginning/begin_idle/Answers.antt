use Rattle.device_mount.proofs.Untold.{begins_to_count, never_worn}
use Rattle.device_mount.proofs.beginning.begin_idle.Goals as goal

pub unreachable-requires-in-Err-WornOut : goal.unreachable-requires-in-Err-WornOut
unreachable-requires-in-Err-WornOut c =
    never_worn c.args.plan c.args.scan c.args.scan.erases c.requires.untold c.requires.scanned c.in-Err-WornOut.field-0-0
    (rw c.in-Err-WornOut.field-0-is at c.in-Err-WornOut.ensures.fault)

pub returns-in-Ok-clause-counts : goal.returns-in-Ok-clause-counts
returns-in-Ok-clause-counts c =
    begins_to_count c.args.plan c.args.scan.erases c.requires.untold c.in-Ok.mount c.in-Ok.ensures.first c.in-Ok.ensures.counts
