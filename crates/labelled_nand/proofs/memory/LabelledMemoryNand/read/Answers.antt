use Rattle.std.proofs.Common.{◌≤◌, length, sym, arith}
use Rattle.labelled_nand.proofs.Marking.{cell_is, cells_long, within}
use Rattle.std.proofs.lemmas.Bool.{ltb-true}
use Rattle.labelled_nand.proofs.memory.LabelledMemoryNand.read.Goals as goal

pub unreachable-requires : goal.unreachable-requires
unreachable-requires c =
    let blocks = c.self.inside.blocks.items in
    let b = c.args.place.block in
    let r = c.index.result.now in
    let none = rw c.in-None.is at c.get.ensures.lookup in
    let past : length r.cells.items ≤ c.args.place.page = rw c.deref.ensures.value at none.3 in
    let h = rw (← c.self.view_is) at c.requires.programmed in
    let lt = within blocks b r c.index.ensures h.in_range in
    omega (arith, past, h.filled, cells_long blocks b r c.index.ensures lt)

pub returns-clause-cell : goal.returns-clause-cell
returns-clause-cell c =
    let blocks = c.self.inside.blocks.items in
    let r = c.index.result.now in
    let look = rw c.deref.ensures.value at c.in-Some.ensures.lookup in
    let h = rw (← c.self.view_is) at c.requires.programmed in
    let lt = within blocks c.args.place.block r c.index.ensures h.in_range in
    rw (← c.self.view_is) (sym (cell_is blocks c.args.place r c.index.ensures lt c.in-Some.cell.now
    (ltb-true c.args.place.page (length r.cells.items) (sym look.0)) look.1))
