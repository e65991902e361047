use Rattle.std.proofs.Common.{◌≡◌, ◌++◌}
use Rattle.flashplan_run_figures.specs.Tables.{blanks}
use Rattle.flashplan_run_figures.proofs.table_cells.put_blanks.Given as goal

abbrev pub invariant-loop : goal.invariant-loop
invariant-loop l = l.text.items ++ blanks l.counter l.to ≡ l.fn.text.items ++ blanks l.from l.to
