use Rattle.slot_core.specs.Events.{with_ops, reply_of_note}
use Rattle.die_service.proofs.Asking.{works_accepted, works_refused}
use Rattle.die_service.proofs.drivers.Driver.bring_one.Goals.{in-Ok, in-Err}
use Rattle.die_service.proofs.drivers.Driver.bring_one.Goals as goal

pub returns-clause-brought : goal.returns-clause-brought
returns-clause-brought g c _ =
    let came = with_ops c.in-Some.head c.next_due.new.self.ops in
    elim c.match-event.branch [
      | in-Ok w ↦ rw (w.self-is, ← c.self.view_is) (works_accepted g.W.Work.does c.args.clock _ _ _ _ came _ _
          (reply_of_note w.in-Ok.field-0) c.in-Some.ensures.due (rw c.ops.ensures at w.in-Ok.ensures.called))
      | in-Err w ↦ rw (w.self-is, ← c.self.view_is) (works_refused g.W.Work.does c.args.clock _ _ _ _ came _ _
          w.in-Err.refused _ c.in-Some.ensures.due w.note.ensures.rest w.note.ensures.place w.note.ensures.noted
          (rw c.ops.ensures at w.in-Err.ensures.called_refused))
    ]
