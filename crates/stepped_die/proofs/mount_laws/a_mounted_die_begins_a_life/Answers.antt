use Rattle.stepped_die.proofs.Mounted.{begins_life}
use Rattle.stepped_die.proofs.mount_laws.a_mounted_die_begins_a_life.Goals as goal

pub returns : goal.returns
returns c = begins_life
