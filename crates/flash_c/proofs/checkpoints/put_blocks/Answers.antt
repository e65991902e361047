use Rattle.std.proofs.Common.{sym, ◌∙◌, arith}
use Rattle.flash_c.specs.Checkpoints.{counts_of}
use Rattle.flash_c.proofs.Filling.{filled_none, filled_more, filled_all}
use Rattle.flash_c.proofs.checkpoints.put_blocks.Goals as goal

pub loop-i-init : goal.loop-i-init
loop-i-init c = sym (filled_none counts_of c.args.room.now)

pub loop-i-preserved : goal.loop-i-preserved
loop-i-preserved c =
    rw (c.counts_of.ensures, c.loop-i.invariant)
    (filled_more counts_of c.args.room.now c.args.blocks.now c.loop-i.i _ (omega arith) (omega arith))

pub returns : goal.returns
returns c = c.loop-i.invariant ∙ filled_all counts_of c.args.room.now c.args.blocks.now c.loop-i.i (omega arith)
