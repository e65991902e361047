use Rattle.std.proofs.Common.{◌∙◌, [], ◌++◌, get_or, refl, append_assoc}
use Rattle.std.proofs.lemmas.List.{append-nil, drop_all}
use Rattle.flashplan_terms_design.specs.Explaining.{ExplainsDie}
use Rattle.flashplan_terms_design.proofs.Dies.{dies-from}
use Rattle.flashplan_terms_design.proofs.explained.put_dies.Goals as goal

pub loop-die-preserved : goal.loop-die-preserved
loop-die-preserved c =
    let dies = c.args.dies.now in
    let die = c.loop-die.die in
    let d = c.index-dies-die.result in
    let before = c.loop-die.invariant in
    let added = c.in_ok-put_die.ensures.said in
    let explained : ExplainsDie c.args.slot_us die (get_or dies die d) added.0 = rw (← c.index-dies-die.is) added.1 in (
      before.0 ++ added.0,
      added.2 ∙ rw before.1 (append_assoc c.args.text.now.items before.0 added.0),
      λ rest more. rw (append_assoc before.0 added.0 rest)
          (before.2 (added.0 ++ rest) (dies-from c.args.slot_us dies die d added.0 rest c.loop-die-test.true explained more)),
    )

pub returns-clause-said : goal.returns-clause-said
returns-clause-said c =
    let before = c.loop-die.invariant in (
      before.0,
      rw (append-nil before.0) at (before.2 [] (rw (drop_all c.loop-die.die c.args.dies.now c.loop-die-test.false) refl)),
      before.1,
    )
