use Rattle.std.proofs.Common.{sym, ◌∙◌, arith}
use Rattle.flash_c.specs.Names.{op_in}
use Rattle.flash_c.proofs.Filling.{filled_none, filled_more, filled_all, filled_front}
use Rattle.flash_c.proofs.names.put_ops.Goals as goal

pub loop-i-init : goal.loop-i-init
loop-i-init g c = sym (filled_none op_in c.args.places.now)

pub loop-i-preserved : goal.loop-i-preserved
loop-i-preserved g c =
    rw (c.op_in.ensures, c.loop-i.invariant)
    (filled_more op_in c.args.places.now c.args.ops.now c.loop-i.i _ (omega arith) (omega arith))

pub returns : goal.returns
returns g c =
    let all = c.loop-i.invariant ∙ filled_all op_in c.args.places.now c.args.ops.now c.loop-i.i (omega arith) in
    rw all (filled_front op_in c.args.places.now c.args.ops.now (omega arith))
