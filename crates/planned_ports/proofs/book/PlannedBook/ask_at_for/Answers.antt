use Rattle.std.proofs.Common.{◌<◌, length, Ok, Err, subst, arith}
use Rattle.std.proofs.lemmas.List.{length_push}
use Rattle.std.specs.Box.{box_value}
use Rattle.turn_lock.specs.Log.{entry}
use Rattle.task_outcomes.specs.OutcomeDies.{OutcomeParts}
use Rattle.planned_ports.specs.declared.calls.Request.TheVariants as requests
use Rattle.planned_ports.specs.declared.calls.Granted.TheVariants as granted
use Rattle.planned_ports.specs.declared.calls.Refused.TheVariants as refused
use Rattle.planned_ports.specs.Replies.{MayReply}
use Rattle.planned_ports.specs.Shared.{SharedDie}
use Rattle.planned_ports.proofs.Booking.{Answers, ask_at_answers, replied, with_entry, without_entry}
use Rattle.planned_ports.proofs.book.PlannedBook.ask_at_for.Goals as goal

pub invariant_of-self : goal.invariant_of-self
invariant_of-self g c =
    let shared : SharedDie g.row.N.Denot = record { opened = c.self.inside.opened.value; calls = c.self.inside.history.calls; die = box_value c.self.inside.die } in
    let request = requests.AskAt c.args.kind c.args.task c.args.ops.now c.args.at in
    let answer = granted.Job c.in-Ok.taken in
    let h = subst (λ (p : OutcomeParts g.row.N.Denot). Answers c.args.caller request (Ok answer) p c.ask_at_as.new.self) c.deref_mut.ensures.value
    (ask_at_answers c.args.caller c.deref_mut.result.now c.ask_at_as.new.self c.in-Ok.ensures.plan c.args.kind c.args.task c.args.ops.now c.args.at (Ok c.in-Ok.taken) c.in-Ok.ensures.ask
    c.in-Ok.ensures.queues) in
    let room : length shared.calls < 4294967295 = omega (arith, c.if-self-ge-MOST.false, c.self.invariant.0) in
    let more = length_push shared.calls (entry c.args.caller request (Ok answer)) in
    rw c.with_ask_at-self-inside.ensures (
      omega (arith, c.self.invariant.0, more),
      with_entry shared c.self.invariant.1 c.args.caller request c.ask_at_as.new.self answer h room,
    )

pub invariant_of-self-in-Err : goal.invariant_of-self-in-Err
invariant_of-self-in-Err g c =
    let shared : SharedDie g.row.N.Denot = record { opened = c.self.inside.opened.value; calls = c.self.inside.history.calls; die = box_value c.self.inside.die } in
    let request = requests.AskAt c.args.kind c.args.task c.args.ops.now c.args.at in
    let stop = refused.AskAt c.in-Err.stop in
    let h = subst (λ (p : OutcomeParts g.row.N.Denot). Answers c.args.caller request (Err stop) p c.ask_at_as.new.self) c.deref_mut.ensures.value
    (ask_at_answers c.args.caller c.deref_mut.result.now c.ask_at_as.new.self c.in-Err.ensures.plan c.args.kind c.args.task c.args.ops.now c.args.at (Err c.in-Err.stop) c.in-Err.ensures.ask
    c.in-Err.ensures.queues) in
    (c.self.invariant.0, without_entry shared c.self.invariant.1 c.args.caller request c.ask_at_as.new.self stop h)

pub returns-in-Ok-clause-replied : goal.returns-in-Ok-clause-replied
returns-in-Ok-clause-replied g c =
    let shared : SharedDie g.row.N.Denot = record { opened = c.self.inside.opened.value; calls = c.self.inside.history.calls; die = box_value c.self.inside.die } in
    let request = requests.AskAt c.args.kind c.args.task c.args.ops.now c.args.at in
    let answer = granted.Job c.in-Ok.taken in
    let h = subst (λ (p : OutcomeParts g.row.N.Denot). Answers c.args.caller request (Ok answer) p c.ask_at_as.new.self) c.deref_mut.ensures.value
    (ask_at_answers c.args.caller c.deref_mut.result.now c.ask_at_as.new.self c.in-Ok.ensures.plan c.args.kind c.args.task c.args.ops.now c.args.at (Ok c.in-Ok.taken) c.in-Ok.ensures.ask
    c.in-Ok.ensures.queues) in
    let room : length shared.calls < 4294967295 = omega (arith, c.if-self-ge-MOST.false, c.self.invariant.0) in
    subst (λ (s : SharedDie g.row.N.Denot). MayReply s.opened s.calls c.args.caller request (Ok answer)) c.self.view_is
    (room, replied shared c.self.invariant.1 c.args.caller request c.ask_at_as.new.self (Ok answer) h)

pub returns-in-Err-clause-replied : goal.returns-in-Err-clause-replied
returns-in-Err-clause-replied g c =
    let shared : SharedDie g.row.N.Denot = record { opened = c.self.inside.opened.value; calls = c.self.inside.history.calls; die = box_value c.self.inside.die } in
    let request = requests.AskAt c.args.kind c.args.task c.args.ops.now c.args.at in
    let stop = refused.AskAt c.in-Err.stop in
    let h = subst (λ (p : OutcomeParts g.row.N.Denot). Answers c.args.caller request (Err stop) p c.ask_at_as.new.self) c.deref_mut.ensures.value
    (ask_at_answers c.args.caller c.deref_mut.result.now c.ask_at_as.new.self c.in-Err.ensures.plan c.args.kind c.args.task c.args.ops.now c.args.at (Err c.in-Err.stop) c.in-Err.ensures.ask
    c.in-Err.ensures.queues) in
    let room : length shared.calls < 4294967295 = omega (arith, c.if-self-ge-MOST.false, c.self.invariant.0) in
    rw (← c.self.view_is) (room, replied shared c.self.invariant.1 c.args.caller request c.ask_at_as.new.self (Err stop) h)
