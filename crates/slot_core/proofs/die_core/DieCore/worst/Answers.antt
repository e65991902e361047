use Rattle.std.proofs.Common.{◌∙◌, ap, Some}
use Rattle.slot_core.proofs.Worsts.{worst_found, worst_missing}
use Rattle.slot_core.proofs.die_core.DieCore.worst.Goals as goal

pub returns-in-Some : goal.returns-in-Some
returns-in-Some g c =
    ap Some c.worst_as.ensures
    ∙ (rw (← c.self.view_is) (worst_found _ _ _ _ _ c.self.invariant.0.kept.bound c.self.invariant.0.kept.exact
    c.self.invariant.0.kept.jobs_are c.in-Some.ensures.worst c.in-Some.ensures.lateness))

pub returns-in-None : goal.returns-in-None
returns-in-None g c = rw (← c.self.view_is) (worst_missing _ _ _ c.self.invariant.0.kept.bound c.self.invariant.0.kept.exact
    c.self.invariant.0.kept.jobs_are c.in-None.ensures.none)
