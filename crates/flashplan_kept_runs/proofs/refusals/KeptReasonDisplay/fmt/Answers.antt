use Rattle.std.proofs.Common.{append_assoc}
use Rattle.flashplan_kept_runs.proofs.refusals.KeptReasonDisplay.fmt.Goals as goal

pub returns-in-LongerThanLife-clause-writes : goal.returns-in-LongerThanLife-clause-writes
returns-in-LongerThanLife-clause-writes g c =
    rw c.in-LongerThanLife.is (simp append_assoc (rw c.from.ensures at c.write-in-LongerThanLife.ensures.writes))
