use Rattle.std.proofs.Common.{◌≡◌, map, take}
use Rattle.flash_c.specs.Names.{page_in}
use Rattle.flash_c.proofs.checkpoints.pages_in.Given as goal

abbrev pub invariant-loop-name : goal.invariant-loop-name
invariant-loop-name l = l.made ≡ map page_in (take l.name-index l.names)
