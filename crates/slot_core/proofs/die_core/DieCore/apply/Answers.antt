use Rattle.slot_core.proofs.Running.{accepted_call}
use Rattle.slot_core.proofs.die_core.DieCore.apply.Goals as goal

pub returns-in-Ok : goal.returns-in-Ok
returns-in-Ok g c = accepted_call g.N.Nand.ends g.N.Nand.failures g.N.Nand.never_fails c.args.event c.in-Ok.reply c.args.self.now
    c.perform.new.self c.in-Ok.ensures
