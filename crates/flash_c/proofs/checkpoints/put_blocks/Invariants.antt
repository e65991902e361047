use Rattle.std.proofs.Common.{◌≡◌, take}
use Rattle.flash_c.specs.Lists.{array_with}
use Rattle.flash_c.specs.Checkpoints.{counts_of}
use Rattle.flash_c.proofs.checkpoints.put_blocks.Given as goal

abbrev pub invariant-loop-i : goal.invariant-loop-i
invariant-loop-i l = l.room ≡ array_with counts_of l.initial.room (take l.i l.blocks)
