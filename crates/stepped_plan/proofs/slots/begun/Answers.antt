use Rattle.stepped_plan.proofs.Calling.{has_begun}
use Rattle.stepped_plan.proofs.slots.begun.Goals as goal

pub returns-in-Ok-clause-begun : goal.returns-in-Ok-clause-begun
returns-in-Ok-clause-begun c = rw c.in-Between.is (
    has_begun c.args.caller c.in-Between.die c.in-Ok.die c.asked-begun.new.die c.asked-begun.result c.copy_of-said.result c.in-Ok.ensures.begun
    c.in-Ok.ensures.caller c.asked-begun.ensures.unchanged c.asked-begun.ensures.asked c.copy_of-said.ensures)
