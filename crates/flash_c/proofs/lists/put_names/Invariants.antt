use Rattle.std.proofs.Common.{◌≡◌, take}
use Rattle.flash_c.specs.Lists.{array_with}
use Rattle.flash_c.specs.Names.{name_of}
use Rattle.flash_c.proofs.lists.put_names.Given as goal

abbrev pub invariant-loop-i : goal.invariant-loop-i
invariant-loop-i l = l.places ≡ array_with name_of l.initial.places (take l.i l.pages)
