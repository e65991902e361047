use Rattle.std.proofs.Common.{refl, subst, sym}
use Rattle.slot_types.specs.declared.plans.DiePlan.{DiePlan}
use Rattle.labelled_die.specs.Beside.{beside_of}
use Rattle.part_mount.specs.OnPart.{OnPart, on_part}
use Rattle.device_mount.specs.Mounted.{BeginsLife}
use Rattle.device_mount.proofs.Ended.{beside_end, born, left_beside, life_begins, part_beside}
use Rattle.device_mount.proofs.ending.begun.Goals as goal

pub new-requires : goal.new-requires
new-requires g c =
    let ps = c.args.parts in
    let v : OnPart g.row.N.Denot = on_part ps.part ps.mount ps.erased ps.held ps.failed in
    let on = c.requires.sound.on c.requires.well in
    let n = c.number_from.ensures in
    let p = c.number_from.new.self in
    let d = beside_of (g.N.Nand.shape_of p) p c.args.end.now.aside in
    record {
      part = part_beside g.N.Nand.shape_of g.N.Nand.blocks g.N.LabelledNand.labels g.N.Nand.failures v on c.requires.ended c.args.end.now c.requires.end
          d (beside_end g.N.Nand.shape_of g.N.Nand.blocks g.N.LabelledNand.labels g.N.Nand.failures v on c.args.end.now p n.shape
          n.blocks n.labels n.failures d refl) p n.shape n.blocks n.labels;
    }

pub resume-requires-clause-left : goal.resume-requires-clause-left
resume-requires-clause-left g c =
    let ps = c.args.parts in
    let v : OnPart g.row.N.Denot = on_part ps.part ps.mount ps.erased ps.held ps.failed in
    let on = c.requires.sound.on c.requires.well in
    let n = c.number_from.ensures in
    left_beside g.N.Nand.shape_of g.N.Nand.blocks g.N.LabelledNand.labels g.N.Nand.failures v on c.requires.ended c.args.end.now c.requires.end
    c.new.result (beside_end g.N.Nand.shape_of g.N.Nand.blocks g.N.LabelledNand.labels g.N.Nand.failures v on c.args.end.now c.number_from.new.self n.shape
    n.blocks n.labels n.failures c.new.result c.new.ensures)

pub returns-clause-life : goal.returns-clause-life
returns-clause-life g c = λ pages seen goes.
    let ps = c.args.parts in
    let v : OnPart g.row.N.Denot = on_part ps.part ps.mount ps.erased ps.held ps.failed in
    let on = c.requires.sound.on c.requires.well in
    let n = c.number_from.ensures in
    rw c.resume.ensures
    (subst (λ (p : DiePlan). BeginsLife g.N.LabelledNand.labels p seen pages (born g.N.Nand.blocks p c.args.end.now.checkpoint c.new.result)) (sym c.requires.plan)
    (life_begins g.N.Nand.shape_of g.N.Nand.blocks g.N.LabelledNand.labels g.N.Nand.failures v on c.requires.ended c.args.end.now c.requires.end c.new.result
    (beside_end g.N.Nand.shape_of g.N.Nand.blocks g.N.LabelledNand.labels g.N.Nand.failures v on c.args.end.now c.number_from.new.self n.shape n.blocks n.labels n.failures c.new.result c.new.ensures) pages seen goes))
