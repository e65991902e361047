use Rattle.std.proofs.Common.{◌∙◌}
use Rattle.power_loss.specs.Aside.{part_of}
use Rattle.power_loss.specs.Labels.{labels_in}
use Rattle.power_loss.specs.Recovery.{without_block}
use Rattle.std.proofs.Common.{take}
use Rattle.device_mount.proofs.Again.{no_fault, told_more}
use Rattle.device_mount.proofs.undoing.tell_again.Goals as goal

pub unreachable-requires : goal.unreachable-requires
unreachable-requires g c =
    no_fault g.N.Nand.shape_of g.N.Nand.blocks g.N.LabelledNand.labels g.N.Nand.failures c.args.plan.now c.args.part.now c.requires.part
    c.args.block c.args.without c.args.scan.now c.as_slice.result.now c.in-Err-tell.field-0 c.requires.block c.requires.scan
    (c.as_slice.ensures.value ∙ c.in-Ok.ensures.cells) c.in-Err-tell.ensures.fault

pub returns-clause-scan : goal.returns-clause-scan
returns-clause-scan g c =
    let seen = (g.N.LabelledNand.labels c.args.part.now).blocks in
    told_more g.N.Nand.shape_of g.N.Nand.blocks g.N.LabelledNand.labels g.N.Nand.failures c.args.plan.now c.args.part.now c.requires.part
    c.args.block c.args.without c.tell.new.self c.requires.block
    (c.in-Ok-tell.ensures.ok (part_of c.args.plan.now) (take c.args.block (without_block c.args.without seen))
    (labels_in (without_block c.args.without seen) c.args.block) c.requires.scan (c.as_slice.ensures.value ∙ c.in-Ok.ensures.cells))
