-- The rows of a table's jobs and collections.
use Rattle.std.specs.Prelude.{ℕ, ◌+◌, List, [], ◌∷◌, Option, Some, None}
use Rattle.std.specs.List.{cons_option}
use Rattle.late_cert.specs.declared.rows.JobRow.{JobRow}
use Rattle.job_table.specs.declared.stages.Stage.{Stage}
use Rattle.job_table.specs.declared.stages.Stage.TheVariants as stages
use Rattle.job_table.specs.Jobs.{JobRecord}

-- with this completion
abbrev pub row_with : ℕ → JobRecord → Option ℕ → JobRow
row_with number r completion = record { number = number; release = r.release; due = r.due; work = r.work; completion = completion }

abbrev pub row_as : Stage → ℕ → JobRecord → Option JobRow
row_as stages.Pending number r = Some (row_with number r None)
row_as (stages.Done completion given) number r = Some (row_with number r (Some completion))
row_as (stages.Waived given) number r = None

-- the row of a number; a waived one has none
abbrev pub row_in : ℕ → JobRecord → Option JobRow
row_in number r = row_as r.stage number r

-- the rows of these, numbered from a first number on
abbrev pub rows_in : ℕ → List JobRecord → List JobRow
rows_in first [] = []
rows_in first (r ∷ rs) = cons_option (row_in first r) (rows_in (first + 1) rs)
