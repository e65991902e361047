use Rattle.flashplan_watched_runs.proofs.JobEnds.{AreEndsTo}
use Rattle.flashplan_watched_runs.proofs.reports.ends_of.Given as goal

abbrev pub invariant-loop-number : goal.invariant-loop-number
invariant-loop-number l = AreEndsTo l.core.start l.core.log l.number l.ends.items
