use Rattle.std.proofs.Common.{◌≡◌, ◌+◌, drop}
use Rattle.task_script.specs.RowEnds.{ends_from}
use Rattle.task_script.specs.RunCounts.{counted_after, rows_in}
use Rattle.task_script.proofs.row_dies.add_rows.Given as goal

abbrev pub invariant-loop-place : goal.invariant-loop-place
invariant-loop-place l = record {
  counted : counted_after l.count (ends_from l.place (drop l.place l.lines) l.rest)
      ≡ counted_after l.initial.count (ends_from 0 l.lines l.refused);
  few : rows_in l.count ≡ rows_in l.initial.count + l.place;
}
