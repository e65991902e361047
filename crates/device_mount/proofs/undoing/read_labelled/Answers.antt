use Rattle.std.proofs.Common.{◌∙◌}
use Rattle.flash_die.specs.declared.nand.NandCall.TheVariants as calls
use Rattle.device_mount.proofs.Keeping.{programmed, reads}
use Rattle.device_mount.proofs.undoing.read_labelled.Goals as goal

pub read-requires-clause-programmed : goal.read-requires-clause-programmed
read-requires-clause-programmed g c =
    programmed g.N.Nand.shape_of g.N.Nand.blocks g.N.LabelledNand.labels g.N.Nand.failures c.args.plan.now c.args.part.now
    c.requires.part c.args.place c.requires.label

pub returns-in-Ok-clause-bytes : goal.returns-in-Ok-clause-bytes
returns-in-Ok-clause-bytes g c =
    c.in-Ok.ensures.cell
    ∙ reads g.N.Nand.shape_of g.N.Nand.blocks g.N.LabelledNand.labels g.N.Nand.failures c.args.plan.now c.args.part.now c.requires.part
    c.args.place c.requires.label

pub returns-in-Ok-clause-same : goal.returns-in-Ok-clause-same
returns-in-Ok-clause-same g c = record {
  shape = c.in-Ok.ensures.shape;
  well = c.in-Ok.ensures.fails.well;
  blocks_are = c.in-Ok.ensures.blocks;
  labels_are = g.met.N.LabelledNand.follows c.args.part.now c.read.new.self (calls.Read c.args.place) c.in-Ok.ensures.ends;
}
