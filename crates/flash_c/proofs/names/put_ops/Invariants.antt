use Rattle.std.proofs.Common.{◌≡◌, take}
use Rattle.flash_c.specs.Lists.{array_with}
use Rattle.flash_c.specs.Names.{op_in}
use Rattle.flash_c.proofs.names.put_ops.Given as goal

abbrev pub invariant-loop-i : goal.invariant-loop-i
invariant-loop-i g l = l.places ≡ array_with op_in l.initial.places (take l.i l.ops)
