use Rattle.die_mount.proofs.Serials.{IsGreatestUpTo}
use Rattle.die_mount.proofs.newest.greatest_in.Given as goal

abbrev pub invariant-loop-k : goal.invariant-loop-k
invariant-loop-k l = IsGreatestUpTo l.k l.cells l.greatest
