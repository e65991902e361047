use Rattle.std.proofs.Common.{take}
use Rattle.flashplan_script_runs.specs.Counted.{CountsRows}
use Rattle.flashplan_script_runs.proofs.counted.RefusedRows.of.Given as goal

abbrev pub invariant-loop-row : goal.invariant-loop-row
invariant-loop-row l = CountsRows (take l.row-index l.rows) l.counts
