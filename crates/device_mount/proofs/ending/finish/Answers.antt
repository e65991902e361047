use Rattle.std.proofs.Common.{◌∙◌, List, ap, subst, sym}
use Rattle.slot_types.specs.declared.pages.PageData.{PageData}
use Rattle.power_loss.specs.Labels.{Shown}
use Rattle.part_mount.specs.Going.{GoesBySeen}
use Rattle.part_mount.specs.OnPart.{IsSoundOnPart, OnPart}
use Rattle.device_mount.specs.Mounted.{BeginsLife}
use Rattle.device_mount.proofs.ending.finish.Goals as goal

pub end_of-requires-clause-sound : goal.end_of-requires-clause-sound
end_of-requires-clause-sound g c =
    subst (λ (v : OnPart g.row.N.Denot). IsSoundOnPart g.N.Nand.never_fails g.N.Nand.shape_of g.N.Nand.blocks g.N.LabelledNand.labels g.N.Nand.failures v) c.into_parts-parts.ensures.whole
    c.into_parts-parts.ensures.sound

pub end_of-requires-clause-well : goal.end_of-requires-clause-well
end_of-requires-clause-well g c =
    sym (ap (λ (v : OnPart g.row.N.Denot). v.failed) c.into_parts-parts.ensures.whole) ∙ c.requires.well

pub end_of-requires-clause-ended : goal.end_of-requires-clause-ended
end_of-requires-clause-ended g c =
    sym (ap (λ (v : OnPart g.row.N.Denot). v.mount.stage) c.into_parts-parts.ensures.whole) ∙ c.requires.ended

pub returns-clause-life : goal.returns-clause-life
returns-clause-life g c =
    subst (λ (v : OnPart g.row.N.Denot). (pages : List PageData) (seen : Shown)
    → GoesBySeen g.N.LabelledNand.labels pages seen v → BeginsLife g.N.LabelledNand.labels v.mount.plan seen pages c.end_of.result)
    (sym c.into_parts-parts.ensures.whole) c.end_of.ensures.life
