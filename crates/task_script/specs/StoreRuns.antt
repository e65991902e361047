-- What is gathered of a store's dies.
use Rattle.std.specs.Prelude.{ℕ, ◌+◌, List, [], ◌∷◌}
use Rattle.slot_core.specs.Core.{Core}
use Rattle.report_texts.specs.declared.reports.DieReport.{DieReport}
use Rattle.task_script.specs.DieReports.{die_report_of}
use Rattle.task_script.specs.TextRuns.{with_rows}

-- the reports of the dies that have rows, numbered from this number on
abbrev pub reports_of : {N : Type 0} → ℕ → List (Core N) → List DieReport
reports_of number [] = []
reports_of number (die ∷ dies) = with_rows (die_report_of die.start die.log number) (reports_of (number + 1) dies)
