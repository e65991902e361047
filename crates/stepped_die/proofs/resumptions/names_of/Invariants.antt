use Rattle.std.proofs.Common.{◌≡◌, take}
use Rattle.flash_volume.specs.Cells.{contents}
use Rattle.stepped_die.proofs.resumptions.names_of.Given as goal

abbrev pub invariant-loop-place : goal.invariant-loop-place
invariant-loop-place l = l.names ≡ contents l.device.memory.blocks (take l.place-index l.places)
