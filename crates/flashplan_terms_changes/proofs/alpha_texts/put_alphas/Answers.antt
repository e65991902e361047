use Rattle.std.proofs.Common.{◌∙◌, [], ◌++◌, refl, sym, append_assoc}
use Rattle.std.proofs.lemmas.List.{append-nil}
use Rattle.flashplan_terms_changes.proofs.Rows.{one-alpha}
use Rattle.flashplan_terms_changes.proofs.alpha_texts.put_alphas.Goals as goal

pub loop-before-init : goal.loop-before-init
loop-before-init c = ([], refl, sym (append-nil c.args.text.now.items))

pub loop-before-preserved : goal.loop-before-preserved
loop-before-preserved c =
    let before = c.loop-before.invariant in
    let added = c.in_ok-put_dies.ensures.said in (
      before.0 ++ added.0,
      one-alpha c.args.slot_us c.args.numbers.now c.loop-before.before before.0 added.0 before.1 added.1,
      added.2 ∙ rw before.2 (append_assoc c.args.text.now.items before.0 added.0),
    )
