use Rattle.std.proofs.Common.{sym, ◌∙◌}
use Rattle.event_log.proofs.Carrying.{slots_popped, arrivals_popped, some_popped}
use Rattle.event_log.proofs.slots_back.SlotsBack.pop.Goals as goal

pub returns-in-Some-slot-clause-slots : goal.returns-in-Some-slot-clause-slots
returns-in-Some-slot-clause-slots c =
    rw (← c.self.view_is) (sym c.loop-last.invariant.0
    ∙ slots_popped c.loop-last.self-inside.runs.now c.in-Some.before.now c.in-Some.last.now c.in-Some-slot.number c.in-Some.ensures.cases.0
    (sym c.in-Some-slot.ensures))

pub returns-in-Some-slot-clause-some : goal.returns-in-Some-slot-clause-some
returns-in-Some-slot-clause-some c = (some_popped c.loop-last.self-inside.runs.now c.in-Some.before.now c.in-Some.last.now
    c.in-Some.ensures.cases.0 c.loop-last.invariant.1).1

pub loop-last-preserved : goal.loop-last-preserved
loop-last-preserved c = (
  arrivals_popped c.loop-last.self-inside.runs.now c.in-Some.before.now c.in-Some.last.now c.in-Some.ensures.cases.0
      (sym c.in_default-slot.ensures) ∙ c.loop-last.invariant.0,
  (some_popped c.loop-last.self-inside.runs.now c.in-Some.before.now c.in-Some.last.now c.in-Some.ensures.cases.0 c.loop-last.invariant.1).0,
)
