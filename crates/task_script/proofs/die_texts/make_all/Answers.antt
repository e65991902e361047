use Rattle.std.proofs.Common.{◌≡◌, ◌+◌, get_or, subst, rules, arith}
use Rattle.task_script.specs.DieTexts.{IsMade}
use Rattle.task_script.proofs.Parting.{all_made}
use Rattle.task_script.proofs.die_texts.make_all.Goals as goal

pub returns : goal.returns
returns g c =
    all_made 0 c.args.texts.now c.for_each_mut.new.s (search rules)
    (λ i d below. let call = (c.for_each_mut.ensures i d below).1 in
    let counted : i ≡ 0 + i = omega arith in
    subst (λ n. IsMade n (get_or c.args.texts.now i d) (get_or c.for_each_mut.new.s i d)) counted
    (subst (λ s. IsMade i s (get_or c.for_each_mut.new.s i d)) call.argument_is
    (subst (λ t. IsMade i call.argument.now t) call.left call.call)))
