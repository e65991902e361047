use Rattle.std.proofs.Common.{◌≡◌, Some, set, take, slice_get, sym, ap, ◌∙◌, arith}
use Rattle.std.proofs.lemmas.Option.{get_or_from_slice_get}
use Rattle.slot_types.specs.declared.replies.Waived.{Waived}
use Rattle.flash_c.specs.Lists.{array_with}
use Rattle.flash_c.specs.Slots.{waived_of}
use Rattle.flash_c.proofs.Filling.{filled_none, filled_more, filled_all}
use Rattle.flash_c.proofs.entries.put_waivers.Goals as goal

pub loop-i-init : goal.loop-i-init
loop-i-init c = sym (filled_none waived_of c.args.places.now)

pub loop-i-preserved : goal.loop-i-preserved
loop-i-preserved c =
    let here : slice_get c.args.waived.now c.loop-i.i ≡ Some c.unwrap.result = sym c.get.ensures ∙ c.unwrap.ensures in
    rw (c.waived_of.ensures, c.loop-i.invariant)
    (ap (λ (w : Waived). set (array_with waived_of c.args.places.now (take c.loop-i.i c.args.waived.now)) c.loop-i.i (waived_of w))
    (sym (get_or_from_slice_get c.args.waived.now c.loop-i.i c.unwrap.result c.unwrap.result here))
    ∙ filled_more waived_of c.args.places.now c.args.waived.now c.loop-i.i c.unwrap.result (omega arith) (omega arith))

pub returns : goal.returns
returns c = c.loop-i.invariant ∙ filled_all waived_of c.args.places.now c.args.waived.now c.loop-i.i (omega arith)
