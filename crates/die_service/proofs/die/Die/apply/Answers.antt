use Rattle.die_service.proofs.Passing.{added, left}
use Rattle.die_service.proofs.die.Die.apply.Goals as goal

pub returns-clause-added : goal.returns-clause-added
returns-clause-added g c = added g.N.Nand.never_fails c.args.pass.now.view c.args.event c.apply.result c.apply.new.pass.view
    c.apply.ensures.reply c.apply.ensures.own

pub returns-clause-refused : goal.returns-clause-refused
returns-clause-refused g c = left g.N.Nand.never_fails c.args.pass.now.view c.args.event c.apply.result c.apply.new.pass.view
    c.apply.ensures.reply c.apply.ensures.own
