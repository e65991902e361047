use Rattle.std.proofs.Common.{[], ◌∷◌, sym, ◌∙◌, arith}
use Rattle.flash_c.specs.Conversions.{number_in}
use Rattle.flash_c.proofs.Filling.{filled_none, filled_more, filled_all, filled_last, filled_beyond}
use Rattle.flash_c.proofs.texts.put_text.Goals as goal

pub loop-i-init : goal.loop-i-init
loop-i-init c = sym (filled_none number_in c.args.places.now)

pub loop-i-preserved : goal.loop-i-preserved
loop-i-preserved c =
    rw c.loop-i.invariant (filled_more number_in c.args.places.now c.args.text.now c.loop-i.i 0 (omega arith) (omega arith))

pub returns-then-text-places : goal.returns-then-text-places
returns-then-text-places c =
    let all = c.loop-i.invariant ∙ filled_all number_in c.args.places.now c.args.text.now c.loop-i.i (omega arith) in
    rw all (filled_last number_in c.args.places.now c.args.text.now 0 (omega arith))

pub returns-else-text-places : goal.returns-else-text-places
returns-else-text-places c =
    let all = c.loop-i.invariant ∙ filled_all number_in c.args.places.now c.args.text.now c.loop-i.i (omega arith) in
    all ∙ filled_beyond number_in c.args.places.now c.args.text.now (0 ∷ []) (omega arith)
