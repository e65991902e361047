use Rattle.std.proofs.Common.{rules, arith, ap, refl, ◌∙◌, sym, Ok}
use Rattle.std.proofs.lemmas.List.{take_more}
use Rattle.terms_texts.proofs.Written.{depth-last, tasks-last, tasks-none}
use Rattle.terms_texts.proofs.writing.task_values.Goals as goal

pub loop-i-init : goal.loop-i-init
loop-i-init c = record {
  read = tasks-none _ c.args.tasks.now c.new-values.ensures.items;
  many = rw c.new-values.ensures.items refl;
  flat = rw c.new-values.ensures.items (omega arith);
}

pub loop-i-preserved : goal.loop-i-preserved
loop-i-preserved c =
    let at = c.loop-i.invariant.many in
    record {
      read = rw c.in_ok-push.ensures.items
          (tasks-last c.loop-i.values.items 0 c.loop-i.i c.in_ok-value.value _ _ (omega (arith, at)) c.loop-i.invariant.read
          (c.in_ok-value.ensures.back c.loop-i.i)
          ∙ ap Ok (sym (take_more c.args.tasks.now c.loop-i.i _ c.loop-i-test.true)));
      many = search (rules, arith);
      flat = rw c.in_ok-push.ensures.items
          (depth-last c.loop-i.values.items c.in_ok-value.value c.loop-i.invariant.flat c.in_ok-value.ensures.flat);
    }
