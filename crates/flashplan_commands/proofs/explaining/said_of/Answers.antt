use Rattle.flashplan_commands.proofs.EndedSo.{said_whole}
use Rattle.flashplan_commands.proofs.explaining.said_of.Goals as goal

pub returns-clause-said : goal.returns-clause-said
returns-clause-said c =
    said_whole c.args.asked.slot_us c.args.plan.now c.in_ok-slot_us.slot_us c.in_ok-explained.explained _ c.with_more.result
    c.in_ok-slot_us.ensures.slot (rw c.units_with-units.ensures at c.in_ok-explained.ensures.said) c.with_more.ensures.verdict
    c.with_more.ensures.text
