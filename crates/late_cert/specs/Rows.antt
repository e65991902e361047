-- What the rows say of a number.
use Rattle.std.specs.Prelude.{◌≡◌, ℕ, slice_index_or, map, Bool, false, if◌then◌else◌, ◌==◌, List, [], ◌∷◌, Option, Some, None, is_some}
use Rattle.std.specs.Prelude.{unwrap_or}
use Rattle.std.specs.List.Sorted.{IsStrictlyIncreasing}
use Rattle.late_cert.specs.declared.rows.JobRow.{JobRow}

-- the rows rise by number
abbrev pub RowsRise : List JobRow → Type 0
RowsRise rows = IsStrictlyIncreasing (map (λ (row : JobRow). row.number) rows)

-- the row at the place has the number
abbrev pub IsNamedAt : List JobRow → ℕ → ℕ → Type 0
IsNamedAt rows i j = (d : JobRow) → (slice_index_or rows i d).number ≡ j

-- the row of a number
abbrev pub row_of : List JobRow → ℕ → Option JobRow
row_of [] j = None
row_of (row ∷ rows) j = if row.number == j then Some row else row_of rows j

-- what a field of the row says, or 0 without a row
abbrev pub number_in : (JobRow → ℕ) → Option JobRow → ℕ
number_in field None = 0
number_in field (Some row) = field row

-- there is a row, and its job is done
abbrev pub is_done_in : Option JobRow → Bool
is_done_in None = false
is_done_in (Some row) = is_some row.completion

-- the job of the number is done
abbrev pub is_done : List JobRow → ℕ → Bool
is_done rows j = is_done_in (row_of rows j)

-- from which slot on a slot may carry it
abbrev pub release_of : List JobRow → ℕ → ℕ
release_of rows j = number_in (λ row. row.release) (row_of rows j)

-- the slot before which it should be done
abbrev pub due_of : List JobRow → ℕ → ℕ
due_of rows j = number_in (λ row. row.due) (row_of rows j)

-- how many slots carried it
abbrev pub work_of : List JobRow → ℕ → ℕ
work_of rows j = number_in (λ row. row.work) (row_of rows j)

-- one more than the last slot that carried it, or 0 where it is not done
abbrev pub completion_of : List JobRow → ℕ → ℕ
completion_of rows j = number_in (λ row. unwrap_or row.completion 0) (row_of rows j)

-- the number has a row
abbrev pub is_known : List JobRow → ℕ → Bool
is_known rows j = is_some (row_of rows j)
