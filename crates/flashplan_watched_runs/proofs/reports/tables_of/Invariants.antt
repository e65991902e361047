use Rattle.flashplan_watched_runs.proofs.TablesSoFar.{AreSoFar}
use Rattle.flashplan_watched_runs.proofs.reports.tables_of.Given as goal

abbrev pub invariant-loop-die : goal.invariant-loop-die
invariant-loop-die l = AreSoFar l.units l.all l.die l.text.items
