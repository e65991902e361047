use Rattle.std.proofs.Common.{◌≡◌, ◌+◌, get_or, subst, rules, arith}
use Rattle.die_service.specs.Work.{EndsAs}
use Rattle.die_service.proofs.Gathering.{all_end}
use Rattle.die_service.proofs.runs.run_drivers.Goals as goal

pub returns : goal.returns
returns g c =
    all_end g.W.Work.does 0 c.args.slots c.args.drivers.now c.for_each_mut.new.s (search rules)
    (λ i d below. let call = (c.for_each_mut.ensures i d below).1 in
    let counted : i ≡ 0 + i = omega arith in
    subst (λ n. EndsAs g.W.Work.does n c.args.slots (get_or c.args.drivers.now i d) (get_or c.for_each_mut.new.s i d)) counted
    (subst (λ s. EndsAs g.W.Work.does i c.args.slots s (get_or c.for_each_mut.new.s i d)) call.argument_is
    (subst (λ t. EndsAs g.W.Work.does i c.args.slots call.argument.now t) call.left call.call)))
