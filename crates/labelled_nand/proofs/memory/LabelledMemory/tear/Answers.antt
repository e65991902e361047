use Rattle.std.proofs.Common.{List, ap, arith}
use Rattle.labelled_nand.specs.Memory.{MarkedCells}
use Rattle.labelled_nand.proofs.Powering.{torn_block}
use Rattle.labelled_nand.proofs.memory.LabelledMemory.tear.Goals as goal

pub returns-then-block-len : goal.returns-then-block-len
returns-then-block-len c =
    let m = c.self.inside in
    rw (← c.self.view_is) (ap (λ (bs : List MarkedCells). record { shape = m.shape; blocks = bs; next = m.next })
    (torn_block m.blocks.items c.args.place.block c.args.place.page c.index_mut.result.now c.tear_cell.new.block (omega arith) c.index_mut.ensures.value
    c.tear_cell.ensures.cells c.tear_cell.ensures.erasing c.tear_cell.ensures.erases))
