use Rattle.std.proofs.Common.{List, ap, arith}
use Rattle.spare_blocks.specs.Parts.{PartBlock}
use Rattle.spare_blocks.proofs.WearingPower.{torn_block}
use Rattle.spare_blocks.proofs.memory.WearingMemory.tear.Goals as goal

pub returns-then-block-len : goal.returns-then-block-len
returns-then-block-len c =
    let m = c.self.inside in
    rw (← c.self.view_is) (ap (λ (bs : List PartBlock). record { shape = m.shape; blocks = bs; next = m.next; spent = m.spent; faulted = m.faulted })
    (torn_block m.blocks.items c.args.place.block c.args.place.page c.index_mut.result.now c.tear_cell.new.block (omega arith) c.index_mut.ensures.value
    c.tear_cell.ensures.cells c.tear_cell.ensures.erasing c.tear_cell.ensures.failed))
