use Rattle.std.proofs.Common.{◌≡◌, IfOk, subst}
use Rattle.die_log.specs.Model.Opening.{renewed_start}
use Rattle.die_checkpoint.specs.declared.checkpoint.Checkpoint.{Checkpoint}
use Rattle.slot_core.specs.Core.{Core}
use Rattle.slot_core.specs.Resumptions.{resumed_start}
use Rattle.slot_core.proofs.die_core.DieCore.checkpoint.Goals as goal

pub returns-in-Ok-clause-goes_on : goal.returns-in-Ok-clause-goes_on
returns-in-Ok-clause-goes_on g c =
    subst (λ (d : Core g.row.N.Denot). IfOk c.take_checkpoint.result
    (λ (taken : Checkpoint). resumed_start d.start.plan taken (g.N.Nand.blocks d.device) ≡ renewed_start d.start d.log))
    c.may_renew.ensures.unchanged c.take_checkpoint.ensures.goes_on
