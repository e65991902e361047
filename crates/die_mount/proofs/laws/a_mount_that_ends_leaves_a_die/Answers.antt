use Rattle.die_mount.proofs.Ending.{leaves_die}
use Rattle.die_mount.proofs.laws.a_mount_that_ends_leaves_a_die.Goals as goal

pub returns : goal.returns
returns c = leaves_die
