use Rattle.std.proofs.Common.{sym, ap, ◌∙◌, arith}
use Rattle.flash_c.specs.Conversions.{row_of}
use Rattle.flash_c.proofs.Filling.{filled_none, filled_more, filled_all}
use Rattle.flash_c.proofs.lists.put_rows.Goals as goal

pub loop-i-init : goal.loop-i-init
loop-i-init c = sym (filled_none row_of c.args.places.now)

pub loop-i-preserved : goal.loop-i-preserved
loop-i-preserved c =
    rw (c.row_of.ensures ∙ ap row_of c.index-rows-i.is, c.loop-i.invariant)
    (filled_more row_of c.args.places.now c.args.rows.now c.loop-i.i c.index-rows-i.result (omega arith) (omega arith))

pub returns : goal.returns
returns c = c.loop-i.invariant ∙ filled_all row_of c.args.places.now c.args.rows.now c.loop-i.i (omega arith)
