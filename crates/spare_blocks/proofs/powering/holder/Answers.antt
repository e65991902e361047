use Rattle.std.proofs.Common.{arith}
use Rattle.spare_blocks.proofs.Seen.{holder_of}
use Rattle.spare_blocks.proofs.powering.holder.Goals as goal

pub returns : goal.returns
returns c = holder_of c.args.all.now c.args.labelled c.loop-other.other c.loop-other.best (omega arith) c.loop-other.invariant.best
