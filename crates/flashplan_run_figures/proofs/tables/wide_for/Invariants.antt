use Rattle.std.proofs.Common.{◌≡◌, drop}
use Rattle.flashplan_run_figures.specs.Tables.{wide_names}
use Rattle.flashplan_run_figures.proofs.tables.wide_for.Given as goal

abbrev pub invariant-loop-row : goal.invariant-loop-row
invariant-loop-row l =
    wide_names l.layout l.figures l.wide l.row (drop l.row l.names) ≡ wide_names l.layout l.figures l.width 0 l.names
