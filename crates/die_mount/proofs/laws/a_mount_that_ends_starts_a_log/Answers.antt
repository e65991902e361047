use Rattle.die_mount.proofs.Cutting.{starts_log}
use Rattle.die_mount.proofs.laws.a_mount_that_ends_starts_a_log.Goals as goal

pub returns : goal.returns
returns c = starts_log
