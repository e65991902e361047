use Rattle.std.proofs.Common.{◌+◌, ◌<◌, None, rules}
use Rattle.std.specs.Prelude.{IfSome}
use Rattle.flashplan_design.specs.Changes.{distance}
use Rattle.flashplan_terms_changes.specs.Changes.{Does, OwnDo}
use Rattle.flashplan_terms_changes.specs.declared.plan_numbers.PlanNumber.TheVariants as number
use Rattle.flashplan_terms_changes.proofs.OneAlpha.{one-farther, one-nearer, one-without}
use Rattle.flashplan_terms_changes.proofs.nearest_alpha.with_one_more.Goals as goal

pub returns-then-not-is_nearer-clause-found : goal.returns-then-not-is_nearer-clause-found
returns-then-not-is_nearer-clause-found c =
    let from = c.args.numbers.now.top.alpha in
    let isnt : ¬ IfSome c.args.found (λ best. distance (c.args.before + 1) from < distance best from) = search rules in
    one-farther (Does c.args.numbers.now None number.Alpha) c.args.before from c.args.found isnt c.requires.found

pub returns-then-does-clause-found : goal.returns-then-does-clause-found
returns-then-does-clause-found c =
    let from = c.args.numbers.now.top.alpha in
    let near : IfSome c.args.found (λ best. distance (c.args.before + 1) from < distance best from) = search rules in
    let own : OwnDo c.args.numbers.now None number.Alpha (c.args.before + 1) = search rules in
    one-nearer (Does c.args.numbers.now None number.Alpha) c.args.before from c.args.found near (record { own = own; others = tt })
    c.requires.found

pub returns-else-does-clause-found : goal.returns-else-does-clause-found
returns-else-does-clause-found c =
    let own : ¬ OwnDo c.args.numbers.now None number.Alpha (c.args.before + 1) = search rules in
    one-without (Does c.args.numbers.now None number.Alpha) c.args.before c.args.numbers.now.top.alpha c.args.found
    (λ does. own does.own) c.requires.found
