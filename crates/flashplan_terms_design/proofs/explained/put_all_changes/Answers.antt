use Rattle.std.proofs.Common.{◌∙◌, [], ◌++◌, refl, sym, append_assoc}
use Rattle.std.proofs.lemmas.List.{append-nil}
use Rattle.flashplan_terms_design.proofs.Margins.{one-more}
use Rattle.flashplan_terms_design.proofs.explained.put_all_changes.Goals as goal

pub loop-die-init : goal.loop-die-init
loop-die-init c = ([], refl, sym (append-nil c.args.text.now.items))

pub loop-die-preserved : goal.loop-die-preserved
loop-die-preserved c =
    let before = c.loop-die.invariant in
    let added = c.in_ok-put_changes.ensures.said in (
      before.0 ++ added.0,
      one-more c.args.slot_us c.args.numbers.now c.loop-die.die before.0 added.0 before.1 added.1,
      added.2 ∙ rw before.2 (append_assoc c.args.text.now.items before.0 added.0),
    )
