use Rattle.std.proofs.Common.{sym, ◌∙◌, arith}
use Rattle.flash_c.specs.Names.{name_of}
use Rattle.flash_c.proofs.Filling.{filled_none, filled_more, filled_all}
use Rattle.flash_c.proofs.lists.put_names.Goals as goal

pub loop-i-init : goal.loop-i-init
loop-i-init c = sym (filled_none name_of c.args.places.now)

pub loop-i-preserved : goal.loop-i-preserved
loop-i-preserved c =
    rw (c.name_of.ensures, c.loop-i.invariant)
    (filled_more name_of c.args.places.now c.args.pages.now c.loop-i.i _ (omega arith) (omega arith))

pub returns : goal.returns
returns c = c.loop-i.invariant ∙ filled_all name_of c.args.places.now c.args.pages.now c.loop-i.i (omega arith)
