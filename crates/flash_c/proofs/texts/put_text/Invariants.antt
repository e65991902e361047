use Rattle.std.proofs.Common.{◌≡◌, take}
use Rattle.flash_c.specs.Lists.{array_with}
use Rattle.flash_c.specs.Conversions.{number_in}
use Rattle.flash_c.proofs.texts.put_text.Given as goal

abbrev pub invariant-loop-i : goal.invariant-loop-i
invariant-loop-i l = l.places ≡ array_with number_in l.initial.places (take l.i l.text)
