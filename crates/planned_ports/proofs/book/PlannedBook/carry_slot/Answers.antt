use Rattle.std.proofs.Common.{◌<◌, length, Ok, Err, subst, arith}
use Rattle.std.proofs.lemmas.List.{length_push}
use Rattle.std.specs.Box.{box_value}
use Rattle.turn_lock.specs.Log.{entry}
use Rattle.task_outcomes.specs.OutcomeDies.{OutcomeParts}
use Rattle.planned_ports.specs.declared.calls.Request.TheVariants as requests
use Rattle.planned_ports.specs.declared.calls.Granted.TheVariants as granted
use Rattle.planned_ports.specs.declared.calls.Refused.TheVariants as refused
use Rattle.planned_ports.specs.Shared.{SharedDie}
use Rattle.planned_ports.proofs.Booking.{Answers, slot_answers, replied, with_entry}
use Rattle.planned_ports.proofs.book.PlannedBook.carry_slot.Goals as goal

pub invariant_of-self : goal.invariant_of-self
invariant_of-self g c =
    let shared : SharedDie g.row.N.Denot = record { opened = c.self.inside.opened.value; calls = c.self.inside.history.calls; die = box_value c.self.inside.die } in
    let answer = granted.Slot c.in-Ok.reply in
    let h = subst (λ (p : OutcomeParts g.row.N.Denot). Answers c.args.caller requests.Slot (Ok answer) p c.slot.new.self) c.deref_mut.ensures.value
    (slot_answers c.args.caller c.deref_mut.result.now c.slot.new.self c.in-Ok.ensures.plan g.N.Nand.ends g.N.Nand.failures g.N.Nand.never_fails (Ok c.in-Ok.reply) c.in-Ok.ensures.slot
    c.in-Ok.ensures.told c.in-Ok.ensures.refused) in
    let room : length shared.calls < 4294967295 = omega (arith, c.if-self-ge-MOST.false, c.self.invariant.0) in
    let more = length_push shared.calls (entry c.args.caller requests.Slot (Ok answer)) in
    rw c.with_slot-self-inside.ensures (
      omega (arith, c.self.invariant.0, more),
      with_entry shared c.self.invariant.1 c.args.caller requests.Slot c.slot.new.self answer h room,
    )

pub returns-in-Ok-clause-replied : goal.returns-in-Ok-clause-replied
returns-in-Ok-clause-replied g c =
    let shared : SharedDie g.row.N.Denot = record { opened = c.self.inside.opened.value; calls = c.self.inside.history.calls; die = box_value c.self.inside.die } in
    let answer = granted.Slot c.in-Ok.reply in
    let h = subst (λ (p : OutcomeParts g.row.N.Denot). Answers c.args.caller requests.Slot (Ok answer) p c.slot.new.self) c.deref_mut.ensures.value
    (slot_answers c.args.caller c.deref_mut.result.now c.slot.new.self c.in-Ok.ensures.plan g.N.Nand.ends g.N.Nand.failures g.N.Nand.never_fails (Ok c.in-Ok.reply) c.in-Ok.ensures.slot
    c.in-Ok.ensures.told c.in-Ok.ensures.refused) in
    let room : length shared.calls < 4294967295 = omega (arith, c.if-self-ge-MOST.false, c.self.invariant.0) in
    rw (← c.self.view_is) (room, replied shared c.self.invariant.1 c.args.caller requests.Slot c.slot.new.self (Ok answer) h)

pub returns-in-Err-clause-replied : goal.returns-in-Err-clause-replied
returns-in-Err-clause-replied g c =
    let shared : SharedDie g.row.N.Denot = record { opened = c.self.inside.opened.value; calls = c.self.inside.history.calls; die = box_value c.self.inside.die } in
    let stop = refused.Slot c.in-Err.stop in
    let h = subst (λ (p : OutcomeParts g.row.N.Denot). Answers c.args.caller requests.Slot (Err stop) p c.slot.new.self) c.deref_mut.ensures.value
    (slot_answers c.args.caller c.deref_mut.result.now c.slot.new.self c.in-Err.ensures.plan g.N.Nand.ends g.N.Nand.failures g.N.Nand.never_fails (Err c.in-Err.stop) c.in-Err.ensures.slot
    c.in-Err.ensures.told c.in-Err.ensures.refused) in
    let room : length shared.calls < 4294967295 = omega (arith, c.if-self-ge-MOST.false, c.self.invariant.0) in
    rw (← c.self.view_is) (room, replied shared c.self.invariant.1 c.args.caller requests.Slot c.slot.new.self (Err stop) h)
