use Rattle.std.proofs.Common.{arith}
use Rattle.flashplan_terms_keeping.proofs.AllKeep.{all_keep}
use Rattle.flashplan_terms_keeping.proofs.keeping.keep_terms.Goals as goal

pub returns : goal.returns
returns c =
    all_keep c.args.store.now c.args.slots c.args.text.now c.loop-die.die c.requires.some
    (omega (arith, c.loop-die-test.false)) c.loop-die.invariant
