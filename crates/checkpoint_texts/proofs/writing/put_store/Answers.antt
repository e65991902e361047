use Rattle.std.proofs.Common.{arith}
use Rattle.checkpoint_texts.proofs.LineLaws.{store-more}
use Rattle.checkpoint_texts.proofs.writing.put_store.Goals as goal

pub loop-i-preserved : goal.loop-i-preserved
loop-i-preserved c =
    store-more c.args.store.now c.loop-i.i c.index-store-i.result _ _ _ (omega (arith, c.loop-i-test.true)) c.index-store-i.is
    c.in_ok-put_die.ensures c.loop-i.invariant
