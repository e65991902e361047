use Rattle.std.specs.Prelude.{replicate}
use Rattle.spare_blocks.specs.Parts.{free_part_block}
use Rattle.spare_blocks.proofs.Tabled.{AreNumberedTo}
use Rattle.stepped_spares.proofs.numbered.number_blocks.Given as goal

abbrev pub invariant-loop-block : goal.invariant-loop-block
invariant-loop-block l =
    AreNumberedTo l.block-counter l.bad l.all l.table (replicate l.count free_part_block) (replicate l.count free_part_block)
