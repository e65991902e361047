use Rattle.flashplan_run_figures.proofs.TaskRecords.{AreSoFar}
use Rattle.flashplan_run_figures.proofs.records.tasks_of.Given as goal

abbrev pub invariant-loop-place : goal.invariant-loop-place
invariant-loop-place l = AreSoFar l.die.ends.now l.die.counts.now.tasks.items l.place l.tasks.items
