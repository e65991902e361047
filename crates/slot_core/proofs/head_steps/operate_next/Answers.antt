use Rattle.std.proofs.Common.{sym, true, false}
use Rattle.slot_core.proofs.Making.{op_makes}
use Rattle.slot_core.proofs.head_steps.operate_next.Goals as goal

pub returns-in-Err-clause-makes : goal.returns-in-Err-clause-makes
returns-in-Err-clause-makes g c = op_makes g.N.Nand.ends g.N.Nand.blocks c.args.volume.now c.operate.new.volume c.args.job.now c.in-Some.op false
    c.requires.plain (sym c.in-Some.ensures) c.in-Err.ensures.made (λ fails. c.in-Err.ensures.needs)

pub returns-in-Ok-clause-makes : goal.returns-in-Ok-clause-makes
returns-in-Ok-clause-makes g c = op_makes g.N.Nand.ends g.N.Nand.blocks c.args.volume.now c.operate.new.volume c.args.job.now c.in-Some.op true
    c.requires.plain (sym c.in-Some.ensures) c.in-Ok.ensures.made (λ fails. absurd (cc))
