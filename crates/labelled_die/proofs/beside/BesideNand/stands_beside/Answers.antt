use Rattle.labelled_die.specs.Beside.{Beside}
use Rattle.labelled_die.proofs.Passing.{stands}
use Rattle.labelled_die.proofs.beside.BesideNand.stands_beside.Goals as goal

pub returns-clause-part : goal.returns-clause-part
returns-clause-part g c =
    let m = c.self.inside in
    let d : Beside g.row.N.Denot = record { part = m.part; shape = m.shape; aside = m.aside; failed = m.failed; refused = m.refused } in
    rw (← c.self.view_is) (stands g.N.Nand.ends g.N.Nand.never_fails g.N.Nand.shape_of g.N.Nand.blocks g.N.LabelledNand.labels g.N.Nand.failures
    g.met.N.LabelledNand.follows d c.self.invariant)

pub returns-clause-shape : goal.returns-clause-shape
returns-clause-shape g c = rw (← c.self.view_is) c.self.invariant.shape_is
