use Rattle.std.proofs.Common.{◌≡◌, map, take}
use Rattle.die_checkpoint.specs.declared.checkpoint.BlockCounts.{BlockCounts}
use Rattle.stepped_die.proofs.mirror.erases_of.Given as goal

abbrev pub invariant-loop-block : goal.invariant-loop-block
invariant-loop-block l = l.erases.items ≡ map (λ (block : BlockCounts). block.erases) (take l.block-index l.blocks)
