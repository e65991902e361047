use Rattle.std.proofs.Common.{◌≡◌, ◌++◌, drop}
use Rattle.flashplan_watched_runs.specs.Ends.{refused_ends}
use Rattle.flashplan_watched_runs.proofs.reports.put_refused.Given as goal

abbrev pub invariant-loop-row : goal.invariant-loop-row
invariant-loop-row l = l.ends.items ++ refused_ends l.die (drop l.row-index l.rows) ≡ l.initial.ends.items ++ refused_ends l.die l.rows
