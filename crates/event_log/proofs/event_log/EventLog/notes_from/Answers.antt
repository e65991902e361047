use Rattle.event_log.proofs.Reading.{notes_from}
use Rattle.event_log.proofs.event_log.EventLog.notes_from.Goals as goal

pub returns : goal.returns
returns c =
    rw (c.new.ensures, c.items_from.ensures, c.items_from-2.ensures, ← c.self.view_is)
    (notes_from c.args.from c.self.inside.deeds.items c.self.inside.callers.items c.self.inside.waivers.items c.parted_at.result.0.now
    c.parted_at.result.1.now c.self.invariant.0.callers_are (rw c.as_slice.ensures.value at c.parted_at.ensures.all)
    c.parted_at.ensures.before)
