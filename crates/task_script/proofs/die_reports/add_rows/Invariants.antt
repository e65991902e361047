use Rattle.task_script.proofs.DieRows.{HasSoFar}
use Rattle.task_script.proofs.die_reports.add_rows.Given as goal

abbrev pub invariant-loop-number : goal.invariant-loop-number
invariant-loop-number g l = HasSoFar l.core.start l.core.log l.die l.number l.initial.text l.text
