use Rattle.stepped_spares.specs.Beginning.{AreAdded}
use Rattle.stepped_spares.proofs.begun.add_blocks.Given as goal

abbrev pub invariant-loop-block : goal.invariant-loop-block
invariant-loop-block l = AreAdded l.blocks l.bad l.table l.block-counter
