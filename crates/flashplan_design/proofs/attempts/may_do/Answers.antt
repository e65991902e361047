use Rattle.flashplan_design.proofs.Dividing.{may_be}
use Rattle.flashplan_design.proofs.attempts.may_do.Goals as goal

pub returns-in-Some : goal.returns-in-Some
returns-in-Some c does =
    c.may_be.ensures.1 (may_be c.args.which c.args.plan.now c.in-Some.times c.args.n c.in-Some.is does)
