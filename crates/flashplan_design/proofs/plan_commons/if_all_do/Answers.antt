use Rattle.flashplan_design.proofs.DieCommons.{least_if, none_if}
use Rattle.flashplan_design.proofs.Tries.{no_true}
use Rattle.flashplan_design.proofs.plan_commons.if_all_do.Goals as goal

pub returns-then-does-clause-found : goal.returns-then-does-clause-found
returns-then-does-clause-found c =
    least_if c.args.plan.now c.args.common c.requires (c.in_ok-does.ensures.does.0 c.if-does.true)

pub returns-else-does-clause-found : goal.returns-else-does-clause-found
returns-else-does-clause-found c =
    none_if c.args.plan.now c.args.common c.requires (λ does. no_true _ c.if-does.false (c.in_ok-does.ensures.does.1 does))
