use Rattle.std.proofs.Common.{◌<◌, Result, Ok, Err, IfOk, IfErr, subst, sym}
use Rattle.slot_types.specs.declared.events.Event.TheVariants.{Slot}
use Rattle.slot_types.specs.declared.replies.Reply.TheVariants as replies
use Rattle.slot_types.specs.declared.replies.SlotReply.{SlotReply}
use Rattle.die_service.specs.declared.refused.RefusedAt.{RefusedAt}
use Rattle.die_service.specs.PassWorks.{MayCall}
use Rattle.die_service.specs.Runs.{asked_event}
use Rattle.die_service.specs.Work.{Asked}
use Rattle.die_service.proofs.Passing.{noted_accepted, noted_added, noted_refused, slot_answered, slot_called, slot_few}
use Rattle.die_service.proofs.pass_works.PassWorkWork.slot.Goals as goal
use Rattle.die_service.proofs.pass_works.PassWorkWork.slot.Goals.{in-Ok, in-Err}

pub slot_note-requires : goal.slot_note-requires
slot_note-requires g c =
    let never = g.N.Nand.never_fails in
    let p = c.self.inside.pass.view in
    let q = c.note.new.pass.view in
    slot_answered _ _ _ (noted_added never p Slot (Ok c.in-Ok.note) q c.in-Ok.ensures.reply c.in-Ok.ensures.own).answered
    (noted_accepted never p Slot (Ok c.in-Ok.note) q c.in-Ok.ensures.reply)

pub returns-clause-called : goal.returns-clause-called
returns-clause-called g c =
    let never = g.N.Nand.never_fails in
    let p = c.self.inside.pass in
    let q = c.note.new.pass in
    rw (← c.self.view_is) (elim c.match-note.branch [
      | in-Ok w ↦ subst (λ (r : Result SlotReply RefusedAt). IfOk r (λ slot. MayCall never p (Asked (asked_event Slot (Ok (replies.Slot slot)))) q))
          (sym w.result-is) (slot_called never p q w.in-Ok.note w.slot_note.result w.in-Ok.ensures.same w.in-Ok.ensures.reply w.in-Ok.ensures.own
          w.slot_note.ensures)
      | in-Err w ↦ subst (λ (r : Result SlotReply RefusedAt). IfOk r (λ slot. MayCall never p (Asked (asked_event Slot (Ok (replies.Slot slot)))) q))
          (sym w.result-is) tt
    ])

pub returns-clause-called_refused : goal.returns-clause-called_refused
returns-clause-called_refused g c =
    let never = g.N.Nand.never_fails in
    let p = c.self.inside.pass in
    let q = c.note.new.pass in
    rw (← c.self.view_is) (elim c.match-note.branch [
      | in-Ok w ↦ subst (λ (r : Result SlotReply RefusedAt). IfErr r (λ refused. MayCall never p (Asked (asked_event Slot (Err refused))) q))
          (sym w.result-is) tt
      | in-Err w ↦ subst (λ (r : Result SlotReply RefusedAt). IfErr r (λ refused. MayCall never p (Asked (asked_event Slot (Err refused))) q))
          (sym w.result-is) (noted_refused never p q Slot (Err w.in-Err.refused) w.in-Err.ensures.same w.in-Err.ensures.reply w.in-Err.ensures.own)
    ])

pub returns-clause-few : goal.returns-clause-few
returns-clause-few g c =
    let never = g.N.Nand.never_fails in
    let p = c.self.inside.pass in
    let q = c.note.new.pass in
    elim c.match-note.branch [
      | in-Ok w ↦ subst (λ (r : Result SlotReply RefusedAt). IfOk r (λ slot. slot.slot < 1048576)) (sym w.result-is)
          (slot_few never p q w.slot_note.result (slot_called never p q w.in-Ok.note w.slot_note.result w.in-Ok.ensures.same
          w.in-Ok.ensures.reply w.in-Ok.ensures.own w.slot_note.ensures))
      | in-Err w ↦ subst (λ (r : Result SlotReply RefusedAt). IfOk r (λ slot. slot.slot < 1048576)) (sym w.result-is) tt
    ]
