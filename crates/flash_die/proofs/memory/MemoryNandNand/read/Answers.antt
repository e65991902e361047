use Rattle.std.proofs.Common.{arith, ◌+◌, ◌*◌, sym, ◌∙◌}
use Rattle.flash_die.specs.MemoryView.{cells_of}
use Rattle.flash_die.proofs.Cut.{Within, within, cell_is}
use Rattle.flash_die.proofs.Laid.{read-laid}
use Rattle.flash_die.proofs.memory.MemoryNandNand.read.Goals as goal
use Rattle.flash_die.proofs.memory.MemoryNandNand.read.Goals.{After-self}

-- the cell is a programmed one
programmed : (c : After-self) → Within c.self.inside.shape (cells_of c.self.inside) c.self.inside.filled.items c.args.place
programmed c =
    let m = c.self.inside in
    within m.shape (cells_of m) m.filled.items m.erasing.items m.erases.items c.args.place c.self.invariant.memory
    (rw (← c.self.view_is) at c.requires.programmed)

pub overflow_mul-at : goal.overflow_mul-at
overflow_mul-at c = omega (arith, (programmed (goal.at.overflow_mul-at c).After-self).small)

pub overflow_add-at : goal.overflow_add-at
overflow_add-at c = omega (arith, (programmed (goal.at.overflow_add-at c).After-self).small)

pub returns-clause-cell : goal.returns-clause-cell
returns-clause-cell c =
    let m = c.self.inside in
    let is = programmed (goal.at.returns-clause-cell c).After-self in
    let at = c.args.place.block * m.shape.pages + c.args.place.page in
    rw (← c.self.view_is) (rw c.deref.ensures.value at c.read_cell.ensures
    ∙ sym (read-laid (m.shape.blocks * m.shape.pages) m.cells.items at)
    ∙ sym (cell_is m.shape (cells_of m) m.filled.items m.erasing.items m.erases.items c.args.place is))
