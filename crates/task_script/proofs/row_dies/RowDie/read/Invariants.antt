use Rattle.std.proofs.Common.{drop}
use Rattle.task_script.proofs.RowsRun.{HaveBeenRead}
use Rattle.task_script.proofs.row_dies.RowDie.read.Given as goal

abbrev pub invariant-loop-place : goal.invariant-loop-place
invariant-loop-place l = HaveBeenRead l.fn.texts (drop l.place l.fn.texts) l.fn.self l.self
