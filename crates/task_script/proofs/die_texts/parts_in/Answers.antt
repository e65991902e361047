use Rattle.std.proofs.Common.{rules, ◌≡◌, ◌<◌, ◌∙◌, List, [], ◌∷◌, Some, arith, ap, length, map}
use Rattle.std.proofs.lemmas.List.{drop-set-lt, take_all}
use Rattle.std.proofs.lemmas.Grind.{drop_more_same, common_steps}
use Rattle.report_texts.specs.TextSoFar.{text_so_far}
use Rattle.task_script.specs.declared.die_texts.DieText.{DieText}
use Rattle.task_script.proofs.Parting.{taken_more}
use Rattle.task_script.proofs.die_texts.parts_in.Goals as goal

pub loop-made-preserved : goal.loop-made-preserved
loop-made-preserved c =
    let said : c.made-item.result.text ≡ Some c.in-Some.part = search rules in
    let inside : c.loop-made.made-index < length c.loop-made.texts = search rules in
    record {
      parts = ap (map Some) c.in_ok-push-2.ensures.items
          ∙ taken_more _ _ _ c.args.texts.now c.loop-made.texts c.loop-made.made-index c.made-item.result c.loop-made-test.true inside
          c.loop-made.invariant.left c.made-item.is said c.loop-made.invariant.parts;
      left = drop-set-lt _ c.loop-made.texts c.loop-made.made-index _ (omega arith)
          ∙ drop_more_same c.loop-made.texts c.args.texts.now c.loop-made.made-index c.loop-made.invariant.left;
    }

pub loop-made-init : goal.loop-made-init
loop-made-init c = grind (arith, common_steps)

pub returns-clause-ok : goal.returns-clause-ok
returns-clause-ok c =
    c.loop-made.invariant.parts ∙ ap (λ (texts : List DieText). Some (text_so_far []) ∷ map (λ (text : DieText). text.text) texts)
    (take_all c.loop-made.made-index c.args.texts.now c.loop-made-test.false)
