use Rattle.std.proofs.Common.{ℕ, ◌+◌, ◌<◌, get_or, map}
use Rattle.late_cert.specs.declared.rows.JobRow.{JobRow}
use Rattle.late_cert.proofs.rows.numbers_rise.Given as goal

abbrev pub invariant-loop-i : goal.invariant-loop-i
invariant-loop-i l = (k : ℕ) → k + 1 < l.i
    → get_or (map (λ (row : JobRow). row.number) l.rows) k 0 < get_or (map (λ (row : JobRow). row.number) l.rows) (k + 1) 0
