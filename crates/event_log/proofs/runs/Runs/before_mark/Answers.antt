use Rattle.event_log.proofs.Marking.{spread-first}
use Rattle.event_log.proofs.runs.Runs.before_mark.Goals as goal

pub returns-clause-items : goal.returns-clause-items
returns-clause-items g c =
    rw (c.as_slice.ensures.value, ← c.self.view_is) (spread-first c.self.inside.runs.items c.self.inside.marked)
