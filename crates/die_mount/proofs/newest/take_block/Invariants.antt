use Rattle.die_mount.proofs.Blocks.{AreTaken}
use Rattle.die_mount.proofs.newest.take_block.Given as goal

abbrev pub invariant-loop-k : goal.invariant-loop-k
invariant-loop-k l = AreTaken l.block l.k l.cells l.initial.map l.initial.serials l.map l.serials
