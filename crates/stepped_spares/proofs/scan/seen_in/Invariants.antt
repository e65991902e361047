use Rattle.spare_blocks.specs.Parts.{PartBlock}
use Rattle.spare_blocks.specs.Powering.{IsSeen}
use Rattle.stepped_spares.specs.Telling.{Tells}
use Rattle.stepped_spares.proofs.scan.seen_in.Given as goal

abbrev pub invariant-loop-page : goal.invariant-loop-page
invariant-loop-page l = (b : PartBlock) → Tells l.labels b → IsSeen b l.page l.seen
