use Rattle.die_mount.proofs.Fewest.{IsFewestUpTo}
use Rattle.die_mount.proofs.part.Part.fewest.Given as goal

abbrev pub invariant-loop-block : goal.invariant-loop-block
invariant-loop-block l = IsFewestUpTo l.self.shape.pages l.self.shape.blocks l.self.cells l.block l.fewest
