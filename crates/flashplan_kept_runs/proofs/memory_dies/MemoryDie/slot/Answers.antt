use Rattle.std.proofs.Common.{◌≡◌, ◌+◌, subst}
use Rattle.flash_die.specs.Memory.{Memory}
use Rattle.die_log.specs.Model.Log.{now}
use Rattle.planned_die.specs.Planned.{Planned}
use Rattle.flashplan_kept_runs.proofs.Slots.{slot_counted}
use Rattle.flashplan_kept_runs.proofs.memory_dies.MemoryDie.slot.Goals as goal

pub returns-clause-counted : goal.returns-clause-counted
returns-clause-counted c =
    subst (λ (p : Planned Memory). now c.slot.new.self.core.log ≡ now p.core.log + 1) c.self.view_is
    (slot_counted _ _ _ c.self.inside.die c.slot.new.self c.self.invariant c.in-Ok.reply c.in-Ok.ensures.slot)
