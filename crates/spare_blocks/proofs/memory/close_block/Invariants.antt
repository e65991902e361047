use Rattle.std.proofs.Common.{◌≡◌, ◌++◌, ◌-◌, length, replicate}
use Rattle.std.specs.Prelude.{vec_capacity}
use Rattle.spare_blocks.specs.Wearing.{torn_cell}
use Rattle.spare_blocks.proofs.memory.close_block.Given as goal

abbrev pub invariant-loop : goal.invariant-loop
invariant-loop l = record {
  cells : l.block.cells.items
      ≡ l.initial.block.cells.items ++ replicate (l.counter - length l.initial.block.cells.items) torn_cell;
  capacity : vec_capacity l.block.cells ≡ vec_capacity l.initial.block.cells;
}
