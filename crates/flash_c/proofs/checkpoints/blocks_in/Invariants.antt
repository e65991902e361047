use Rattle.std.proofs.Common.{◌≡◌, map, take}
use Rattle.flash_c.specs.Checkpoints.{counts_in}
use Rattle.flash_c.proofs.checkpoints.blocks_in.Given as goal

abbrev pub invariant-loop-block : goal.invariant-loop-block
invariant-loop-block l = l.made ≡ map counts_in (take l.block-index l.blocks)
