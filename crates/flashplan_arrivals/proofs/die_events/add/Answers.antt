use Rattle.std.proofs.Common.{arith}
use Rattle.flashplan_arrivals.proofs.Carrying.{row_added}
use Rattle.flashplan_arrivals.proofs.die_events.add.Goals as goal

pub returns-clause-ok : goal.returns-clause-ok
returns-clause-ok c rest =
    row_added c.args.slots c.args.now c.max-to.result c.args.item c.args.events.now _ _ c.requires
    (omega (arith, c.min.ensures, c.max-to.ensures)) c.in_ok-carry.ensures.ok c.in_ok-push.ensures.ok rest
