use Rattle.event_log.proofs.Reading.{first_note}
use Rattle.event_log.proofs.notes_from.NotesFrom.pop.Goals as goal

pub returns-clause-notes : goal.returns-clause-notes
returns-clause-notes c =
    rw (← c.self.view_is, c.in_ok-deed.ensures.items, c.in_ok-caller.ensures.items, c.new.ensures)
    (first_note c.self.inside.place c.pop.new.self c.pop-2.new.self c.in_ok-deed.deed c.in_ok-caller.caller
    c.self.inside.waivers.now c.parted_at.result.0.now c.parted_at.result.1.now c.parted_at.ensures.all c.self.invariant.from
    c.parted_at.ensures.before c.parted_at.ensures.from)
