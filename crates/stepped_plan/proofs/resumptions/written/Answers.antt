use Rattle.std.proofs.Common.{◌≡◌, ap, ◌∙◌, subst}
use Rattle.die_log.specs.Results.Promises.{KeepsPromises}
use Rattle.flash_volume.specs.Cells as volume
use Rattle.slot_core.specs.Core.{Core}
use Rattle.ongoing_die.specs.Standing.{OngoingParts}
use Rattle.stepped_die.specs.declared.mirror.MirrorNand.{MirrorNand}
use Rattle.stepped_plan.proofs.Writing.{has_written}
use Rattle.stepped_plan.proofs.resumptions.written.Goals as goal

pub returns-in-Ok-names_of-clause-written : goal.returns-in-Ok-names_of-clause-written
returns-in-Ok-names_of-clause-written c =
    let before : OngoingParts MirrorNand = c.args.die.now in
    -- what was asked is the core of the die as it was
    let core : c.core-core.result.now ≡ before.die.core =
    c.core-core.ensures ∙ (ap (λ die. die.core) c.die.ensures ∙ ap (λ (d : OngoingParts MirrorNand). d.die.core) c.checkpoint.ensures.unchanged) in
    let e = c.in-Ok.ensures in
    has_written before c.in-Ok.checkpoint c.in-Ok-names_of.names
    (subst (λ (k : Core MirrorNand). KeepsPromises k.start k.log) core c.promises.ensures) e.may.0 e.may.1 e.ok e.fits
    (c.in-Ok-names_of.ensures.names
    ∙ (ap (λ (d : MirrorNand). volume.contents d.memory.blocks c.as_slice.result.now) (c.device.ensures.device ∙ ap (λ (k : Core MirrorNand). k.device) core)
    ∙ ap (volume.contents before.die.core.device.memory.blocks) c.as_slice.ensures))
    (rw (← core) (c.device.ensures.pages (ap (λ (k : Core MirrorNand). k.stopped) core ∙ e.may.0.runs)))
    e.goes_on e.stocked c.args.part
