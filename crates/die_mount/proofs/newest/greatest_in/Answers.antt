use Rattle.std.proofs.Common.{arith}
use Rattle.die_mount.proofs.Serials.{whole}
use Rattle.die_mount.proofs.newest.greatest_in.Goals as goal

pub returns : goal.returns
returns c = whole c.loop-k.k c.args.cells.now c.loop-k.greatest (omega arith) c.loop-k.invariant
