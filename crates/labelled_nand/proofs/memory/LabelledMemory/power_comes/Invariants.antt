use Rattle.std.proofs.Common.{◌≡◌, drop, map, take}
use Rattle.std.specs.Prelude.{All}
use Rattle.labelled_nand.specs.Memory.{closed_cells}
use Rattle.labelled_nand.specs.MemoryView.{cells_of, IsSoundBlock}
use Rattle.labelled_nand.proofs.memory.LabelledMemory.power_comes.Given as goal

abbrev pub invariant-loop-block : goal.invariant-loop-block
invariant-loop-block l = record {
  closed : map cells_of (take l.block-index l.block-items)
      ≡ map (closed_cells l.pages) (map cells_of (take l.block-index l.initial.block-items));
  left : drop l.block-index l.block-items ≡ drop l.block-index l.initial.block-items;
  sound : All (IsSoundBlock l.pages l.fn.self.shape.erase_slots) l.block-items;
}
