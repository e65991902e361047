use Rattle.std.proofs.Common.{◌≡◌, false, Ok, Err, ap, sym, ◌∙◌}
use Rattle.slot_types.specs.declared.events.Event.{Event}
use Rattle.slot_types.specs.declared.events.Event.TheVariants as events
use Rattle.stepped_die.specs.Stepped.{Stepped}
use Rattle.stepped_die.proofs.Ending.{arrived_keeps, stopped_refuses, answered_running}
use Rattle.stepped_die.proofs.die.SteppedDie.collect.Goals.{in-Ok, in-Err}
use Rattle.stepped_die.proofs.die.SteppedDie.collect.Goals as goal

pub invariant_of-self : goal.invariant_of-self
invariant_of-self c = arrived_keeps c.args.self.now c.self.inside.core c.self.inside.begun c.self.inside.part c.args.release c.args.caller
    (events.Collect c.args.task c.args.release c.args.due) c.collect.new.self c.collect.result c.holds_back.result
    (ap (λ (d : Stepped). d.begun) c.self.view_is) c.self.invariant c.promises.ensures tt (λ slot below. below) c.collect.ensures
    c.holds_back.ensures.1 c.if-holds_back.false

pub returns-then-is_stopped-clause-cause : goal.returns-then-is_stopped-clause-cause
returns-then-is_stopped-clause-cause c =
    rw (← c.self.view_is) (stopped_refuses c.args.release (events.Collect c.args.task c.args.release c.args.due)
    (record { core = c.self.inside.core; begun = c.self.inside.begun; part = c.self.inside.part }) (sym c.is_stopped.ensures ∙ c.if-is_stopped.true))

pub returns-clause-stopped : goal.returns-clause-stopped
returns-clause-stopped c =
    let runs : c.self.inside.core.stopped ≡ false = sym c.is_stopped.ensures ∙ c.if-is_stopped.false in
    let event : Event = events.Collect c.args.task c.args.release c.args.due in
    elim c.match-collect.branch [
      | in-Ok w ↦ rw (w.result-is, ← c.self.view_is)
          (answered_running c.args.caller event c.self.inside.core c.collect.new.self (Ok w.in-Ok.number) runs w.in-Ok.ensures)
      | in-Err w ↦ rw (w.result-is, ← c.self.view_is)
          (answered_running c.args.caller event c.self.inside.core c.collect.new.self (Err w.in-Err.refusal) runs w.in-Err.ensures)
    ]
