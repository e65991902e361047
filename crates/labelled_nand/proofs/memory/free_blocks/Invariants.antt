use Rattle.std.proofs.Common.{◌≡◌, map, replicate}
use Rattle.std.specs.Prelude.{All}
use Rattle.labelled_nand.specs.Memory.{no_cells}
use Rattle.labelled_nand.specs.MemoryView.{cells_of, IsSoundBlock}
use Rattle.labelled_nand.proofs.memory.free_blocks.Given as goal

abbrev pub invariant-loop : goal.invariant-loop
invariant-loop l = record {
  blocks : map cells_of l.blocks.items ≡ replicate l.counter no_cells;
  sound : All (IsSoundBlock l.shape.pages l.shape.erase_slots) l.blocks.items;
}
