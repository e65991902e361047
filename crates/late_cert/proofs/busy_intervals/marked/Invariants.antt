use Rattle.std.proofs.Common.{◌≡◌, map, filter, take}
use Rattle.late_cert.specs.declared.rows.JobRow.{JobRow}
use Rattle.late_cert.specs.BusyInterval.{is_carried}
use Rattle.late_cert.proofs.busy_intervals.marked.Given as goal

abbrev pub invariant-loop-i : goal.invariant-loop-i
invariant-loop-i l =
    l.jobs ≡ filter (is_carried l.carried l.start l.completion) (take l.i (map (λ (row : JobRow). row.number) l.rows))
