use Rattle.std.proofs.Common.{refl}
use Rattle.event_log.proofs.Marking.{marked_now, slots_now}
use Rattle.event_log.proofs.event_log.EventLog.mark.Goals as goal

pub invariant_of-self : goal.invariant_of-self
invariant_of-self c =
    rw c.mark.ensures (
      c.self.invariant.0,
      c.self.invariant.1,
      marked_now c.self.inside.deeds.items c.self.inside.callers.items
          c.self.inside.waivers.items c.self.inside.deeds.marked c.self.inside.callers.marked c.self.invariant.0.callers_are c.self.invariant.2
          (rw (← c.self.view_is) at c.requires),
      c.self.invariant.3,
    )

pub returns : goal.returns
returns c =
    rw (c.mark.ensures, ← c.self.view_is)
    (rw (slots_now c.self.inside.deeds.items c.self.inside.callers.items c.self.inside.waivers.items c.self.invariant.0.callers_are) refl)
