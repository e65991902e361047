use Rattle.std.proofs.Common.{◌≡◌, take}
use Rattle.flash_c.specs.Lists.{array_with}
use Rattle.flash_c.specs.Slots.{waived_of}
use Rattle.flash_c.proofs.entries.put_waivers.Given as goal

abbrev pub invariant-loop-i : goal.invariant-loop-i
invariant-loop-i l = l.places ≡ array_with waived_of l.initial.places (take l.i l.waived)
