use Rattle.std.proofs.Common.{sym, ◌∙◌, arith}
use Rattle.flash_c.specs.Conversions.{number_in}
use Rattle.flash_c.proofs.Filling.{filled_none, filled_more, filled_all}
use Rattle.flash_c.proofs.checkpoints.put_numbers.Goals as goal

pub loop-i-init : goal.loop-i-init
loop-i-init c = sym (filled_none number_in c.args.room.now)

pub loop-i-preserved : goal.loop-i-preserved
loop-i-preserved c =
    rw c.loop-i.invariant
    (filled_more number_in c.args.room.now c.args.numbers.now c.loop-i.i _ (omega arith) (omega arith))

pub returns : goal.returns
returns c = c.loop-i.invariant ∙ filled_all number_in c.args.room.now c.args.numbers.now c.loop-i.i (omega arith)
