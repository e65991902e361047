use Rattle.std.proofs.Common.{◌∙◌, List, subst, sym}
use Rattle.slot_types.specs.declared.pages.PageData.{PageData}
use Rattle.slot_types.specs.declared.plans.DiePlan.{DiePlan}
use Rattle.die_checkpoint.specs.Fits.{Fits}
use Rattle.power_loss.specs.Labels.{Shown}
use Rattle.part_mount.specs.Going.{GoesBySeen}
use Rattle.part_mount.specs.OnPart.{on_part}
use Rattle.device_mount.specs.Mounted.{BeginsLife}
use Rattle.device_mount.proofs.Ended.{ended_so}
use Rattle.device_mount.proofs.ending.end_of.Goals as goal

pub begun-requires-clause-end : goal.begun-requires-clause-end
begun-requires-clause-end g c =
    let ps = c.args.parts in
    let on = c.requires.sound.on c.requires.well in
    ended_so ps.mount c.requires.stands c.requires.at_end ps.erased on.first on.one c.finish_in-end.result c.finish_in-end.ensures.end

pub begun-requires-clause-fits : goal.begun-requires-clause-fits
begun-requires-clause-fits g c =
    subst (λ (p : DiePlan). Fits p c.finish_in-end.result.checkpoint) (sym (c.memory.view_is ∙ c.requires.memory)) c.finish_in-end.ensures.fits

pub returns-clause-life : goal.returns-clause-life
returns-clause-life g c =
    let ps = c.args.parts in
    let labels = g.N.LabelledNand.labels in
    subst (λ (p : DiePlan). (pages : List PageData) (seen : Shown)
    → GoesBySeen labels pages seen (on_part ps.part ps.mount ps.erased ps.held ps.failed) → BeginsLife labels p seen pages c.begun.result)
    (c.memory.view_is ∙ c.requires.memory) c.begun.ensures.life
