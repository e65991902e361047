use Rattle.std.proofs.Common.{◌≡◌, ◌++◌, drop}
use Rattle.flashplan_run_figures.specs.Tables.{named_rows}
use Rattle.flashplan_run_figures.proofs.tables.put_rows.Given as goal

abbrev pub invariant-loop-row : goal.invariant-loop-row
invariant-loop-row l =
    l.text.items ++ named_rows l.layout l.records l.row (drop l.row l.names)
    ≡ l.fn.text.items ++ named_rows l.layout l.records 0 l.names
