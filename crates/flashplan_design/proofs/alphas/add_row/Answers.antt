use Rattle.std.proofs.Common.{sym, subst, All}
use Rattle.std.proofs.lemmas.List.Elements.{All-push}
use Rattle.flashplan_design.specs.Alphas.{IsRow}
use Rattle.flashplan_design.proofs.alphas.add_row.Goals as goal

pub returns-clause-so : goal.returns-clause-so
returns-clause-so c = subst (All (IsRow c.args.plan.now)) (sym c.in_ok-push.ensures.items)
    (All-push (IsRow c.args.plan.now) c.args.rows.now.items c.args.row c.requires.so c.requires.row)
