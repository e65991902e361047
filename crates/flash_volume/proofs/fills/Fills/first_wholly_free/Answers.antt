use Rattle.flash_volume.proofs.FreeMarks.{first_free}
use Rattle.flash_volume.proofs.fills.Fills.first_wholly_free.Goals as goal

pub returns-clause-found : goal.returns-clause-found
returns-clause-found c =
    rw (← c.self.view_is) (first_free c.self.inside.counts.items c.self.inside.free c.self.invariant c.least.result c.least.ensures.some
    c.least.ensures.none)
