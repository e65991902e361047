use Rattle.std.proofs.Common.{ap, sym, ◌∙◌, length}
use Rattle.event_log.specs.Notes.{Events}
use Rattle.event_log.proofs.Pushing.{length_of}
use Rattle.event_log.proofs.event_log.EventLog.len.Goals as goal

pub returns : goal.returns
returns c =
    c.self.invariant.0.len_is
    ∙ sym (length_of c.self.inside.deeds.items c.self.inside.callers.items c.self.inside.waivers.items c.self.invariant.0.callers_are)
    ∙ ap (λ (e : Events). length e.notes) c.self.view_is
