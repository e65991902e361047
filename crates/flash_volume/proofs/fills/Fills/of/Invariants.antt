use Rattle.flash_volume.specs.FreeBlocks.{MarksFree}
use Rattle.flash_volume.proofs.fills.Fills.of.Given as goal

abbrev pub invariant-loop-block : goal.invariant-loop-block
invariant-loop-block l = MarksFree l.counts.items l.free l.block
