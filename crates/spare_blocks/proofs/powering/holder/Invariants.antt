use Rattle.spare_blocks.proofs.Seen.{IsFarthestOf}
use Rattle.spare_blocks.proofs.powering.holder.Given as goal

abbrev pub invariant-loop-other : goal.invariant-loop-other
invariant-loop-other l = record { best : IsFarthestOf l.all l.labelled l.other l.best }
