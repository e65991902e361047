-- The rows of a die are numbered from 0.
use Rattle.std.specs.Prelude.{◌≡◌, ⊤, ℕ, ◌+◌, List, [], ◌∷◌, All}
use Rattle.report_texts.specs.ReportOf.{Gathered}
use Rattle.report_texts.specs.declared.reports.DieReport.{DieReport}
use Rattle.report_texts.specs.declared.reports.ReportRow.{ReportRow}

-- the rows have the numbers n, n + 1, n + 2, ..
abbrev pub IsNumberedFrom : ℕ → List ReportRow → Type 0
IsNumberedFrom n [] = ⊤
IsNumberedFrom n (row ∷ rows) = (row.job ≡ n) × IsNumberedFrom (n + 1) rows

abbrev pub IsNumbered : List ReportRow → Type 0
IsNumbered rows = IsNumberedFrom 0 rows

-- so are those of each die
abbrev pub AreNumbered : List DieReport → Type 0
AreNumbered dies = All (λ (die : DieReport). IsNumbered die.rows) dies

abbrev pub GathersNumbered : Gathered → Type 0
GathersNumbered g = AreNumbered g.done × IsNumbered g.rows
