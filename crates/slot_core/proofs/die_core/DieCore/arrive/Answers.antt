use Rattle.slot_core.proofs.die_core.DieCore.arrive.Goals as goal

pub returns-then-collects : goal.returns-then-collects
returns-then-collects g c = rw c.if-collects.true c.collect.ensures

pub returns-else-collects : goal.returns-else-collects
returns-else-collects g c = rw c.if-collects.false c.submit_ops.ensures
