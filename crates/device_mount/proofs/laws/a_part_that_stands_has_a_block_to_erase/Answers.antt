use Rattle.device_mount.proofs.Refusing.{stands_well}
use Rattle.device_mount.proofs.laws.a_part_that_stands_has_a_block_to_erase.Goals as goal

pub returns : goal.returns
returns c = stands_well
