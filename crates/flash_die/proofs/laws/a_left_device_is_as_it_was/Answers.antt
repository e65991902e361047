use Rattle.flash_die.proofs.Left.{left_so}
use Rattle.flash_die.proofs.laws.a_left_device_is_as_it_was.Goals as goal

pub returns : goal.returns
returns c = left_so
