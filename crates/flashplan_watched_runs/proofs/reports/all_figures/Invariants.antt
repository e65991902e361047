use Rattle.std.proofs.Common.{map}
use Rattle.flashplan_watched_runs.specs.Runs.{running}
use Rattle.flashplan_watched_runs.proofs.FiguresSoFar.{AreSoFar}
use Rattle.flashplan_watched_runs.proofs.reports.all_figures.Given as goal

abbrev pub invariant-loop-die : goal.invariant-loop-die
invariant-loop-die l = AreSoFar l.rows l.life (map running l.dies) l.die l.all.items
