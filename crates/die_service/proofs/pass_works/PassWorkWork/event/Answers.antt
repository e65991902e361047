use Rattle.slot_core.specs.Events.{with_ops}
use Rattle.die_service.proofs.Passing.{noted_called, noted_refused}
use Rattle.die_service.proofs.pass_works.PassWorkWork.event.Goals as goal

pub returns-clause-called : goal.returns-clause-called
returns-clause-called g c = rw (← c.self.view_is) (noted_called g.N.Nand.never_fails c.self.inside.pass c.note.new.pass
    (with_ops c.args.head c.args.ops.now) c.note.result c.note.ensures.same c.note.ensures.reply c.note.ensures.own)

pub returns-clause-called_refused : goal.returns-clause-called_refused
returns-clause-called_refused g c = rw (← c.self.view_is) (noted_refused g.N.Nand.never_fails c.self.inside.pass c.note.new.pass
    (with_ops c.args.head c.args.ops.now) c.note.result c.note.ensures.same c.note.ensures.reply c.note.ensures.own)
