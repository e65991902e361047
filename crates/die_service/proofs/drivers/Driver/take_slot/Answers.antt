use Rattle.die_service.proofs.Asking.{works_slot, works_stop}
use Rattle.die_service.proofs.drivers.Driver.take_slot.Goals as goal

pub returns-in-Ok-clause-taken : goal.returns-in-Ok-clause-taken
returns-in-Ok-clause-taken g c =
    rw (← c.self.view_is, c.slot-in-Ok.ensures) (works_slot g.W.Work.does _ _ _ _ _ c.in-Ok.note c.in-Ok.ensures.called)

pub returns-in-Err-clause-stopped : goal.returns-in-Err-clause-stopped
returns-in-Err-clause-stopped g c = rw (← c.self.view_is) (works_stop g.W.Work.does _ _ _ _ _ c.in-Err.refused
    c.in-Err.ensures.called_refused)
