use Rattle.device_mount.proofs.Blank.{may_be_first}
use Rattle.device_mount.proofs.laws.a_mounted_life_may_be_the_first.Goals as goal

pub returns : goal.returns
returns c = may_be_first
