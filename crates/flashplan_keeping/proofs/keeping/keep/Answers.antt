use Rattle.std.proofs.Common.{arith}
use Rattle.flashplan_keeping.proofs.AllKeep.{all_keep}
use Rattle.flashplan_keeping.proofs.keeping.keep.Goals as goal

pub returns : goal.returns
returns c =
    all_keep c.args.plan.now c.args.slots c.args.text.now c.loop-die.die c.requires.some
    (omega (arith, c.loop-die-test.false)) c.loop-die.invariant
