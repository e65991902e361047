use Rattle.std.proofs.Common.{ℕ, ◌<◌, length, Some, None, Ok, Err, subst, ◌∙◌, arith}
use Rattle.std.proofs.lemmas.List.{length_push}
use Rattle.std.specs.Box.{box_value}
use Rattle.turn_lock.specs.Log.{entry}
use Rattle.task_outcomes.specs.OutcomeDies.{OutcomeParts}
use Rattle.planned_ports.specs.declared.calls.Request.TheVariants as requests
use Rattle.planned_ports.specs.declared.calls.Granted.TheVariants as granted
use Rattle.planned_ports.specs.declared.calls.Refused.TheVariants as refused
use Rattle.planned_ports.specs.Shared.{SharedDie}
use Rattle.planned_ports.proofs.Booking.{Answers, take_answers, with_entry, without_entry}
use Rattle.planned_ports.proofs.book.PlannedBook.take_outcome.Goals as goal

pub invariant_of-self : goal.invariant_of-self
invariant_of-self g c =
    let shared : SharedDie g.row.N.Denot = record { opened = c.self.inside.opened.value; calls = c.self.inside.history.calls; die = box_value c.self.inside.die } in
    let request = requests.Outcome c.args.task in
    let answer = granted.Outcome c.in-Ok-Some.outcome in
    let said = c.in-Ok-Some.ensures in
    let h = subst (λ (p : OutcomeParts g.row.N.Denot). Answers c.args.caller request (Ok answer) p c.take_outcome.new.self) c.deref_mut.ensures.value
    (take_answers c.args.caller c.deref_mut.result.now c.take_outcome.new.self {E = ℕ} said.die c.args.task (Ok (Some c.in-Ok-Some.outcome)) (said.ok ∙ c.in-Ok-Some.field-0-is)
    said.left said.gave said.refused) in
    let room : length shared.calls < 4294967295 = omega (arith, c.if-self-ge-MOST.false, c.self.invariant.0) in
    let more = length_push shared.calls (entry c.args.caller request (Ok answer)) in
    rw c.with_outcome-self-inside.ensures (
      omega (arith, c.self.invariant.0, more),
      with_entry shared c.self.invariant.1 c.args.caller request c.take_outcome.new.self answer h room,
    )

pub invariant_of-self-in-Ok-None : goal.invariant_of-self-in-Ok-None
invariant_of-self-in-Ok-None g c =
    let shared : SharedDie g.row.N.Denot = record { opened = c.self.inside.opened.value; calls = c.self.inside.history.calls; die = box_value c.self.inside.die } in
    let request = requests.Outcome c.args.task in
    let said = c.in-Ok-None.ensures in
    let h = subst (λ (p : OutcomeParts g.row.N.Denot). Answers c.args.caller request (Err refused.NoOutcome) p c.take_outcome.new.self) c.deref_mut.ensures.value
    (take_answers c.args.caller c.deref_mut.result.now c.take_outcome.new.self {E = ℕ} said.die c.args.task (Ok None) (said.ok ∙ c.in-Ok-None.field-0-is) said.left said.gave said.refused) in
    (c.self.invariant.0, without_entry shared c.self.invariant.1 c.args.caller request c.take_outcome.new.self refused.NoOutcome h)
