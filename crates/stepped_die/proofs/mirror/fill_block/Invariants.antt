use Rattle.std.proofs.Common.{◌≡◌}
use Rattle.stepped_die.specs.Names.{names_in}
use Rattle.stepped_die.proofs.Naming.{filled_with}
use Rattle.stepped_die.proofs.mirror.fill_block.Given as goal

abbrev pub invariant-loop-page : goal.invariant-loop-page
invariant-loop-page l = record {
  shape : l.memory.shape ≡ l.initial.memory.shape;
  blocks : l.memory.blocks ≡ filled_with l.initial.memory.blocks l.block (names_in l.map.places l.names l.block l.page);
}
