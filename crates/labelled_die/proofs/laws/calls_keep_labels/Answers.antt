use Rattle.labelled_die.proofs.Following.{slot_keeps, arrival_keeps}
use Rattle.labelled_die.proofs.laws.calls_keep_labels.Goals as goal

pub returns-clause-slot : goal.returns-clause-slot
returns-clause-slot g c =
    slot_keeps g.N.Nand.ends g.N.Nand.shape_of g.N.Nand.blocks g.N.LabelledNand.labels g.met.N.LabelledNand.follows g.N.Nand.failures
    g.N.Nand.never_fails

pub returns-clause-arrival : goal.returns-clause-arrival
returns-clause-arrival g c =
    arrival_keeps g.N.Nand.ends g.N.Nand.shape_of g.N.Nand.blocks g.N.LabelledNand.labels g.met.N.LabelledNand.follows
