use Rattle.die_log.proofs.Promises.{keeps_promises}
use Rattle.slot_core.proofs.die_core.DieCore.promises.Goals as goal

pub returns : goal.returns
returns g c = rw (← c.self.view_is) (keeps_promises _ c.self.invariant.0.kept.bound _ c.self.invariant.0.kept.exact)
