-- The rows and slots of one log after those of another one, as those of a single log.
use Rattle.std.specs.Prelude.{◌≡◌, ℕ, ◌+◌, ◌<◌, true, List, ◌++◌, map, Option, option_map}
use Rattle.late_cert.specs.declared.rows.JobRow.{JobRow}
use Rattle.late_cert.specs.Schedule.{Slots}
use Rattle.late_cert.specs.Rows.{is_known, is_done}

-- the row of a job that comes `numbers` numbers and `slots` slots later
abbrev pub row_after : ℕ → ℕ → JobRow → JobRow
row_after numbers slots row = record {
  number = numbers + row.number;
  release = slots + row.release;
  due = slots + row.due;
  work = row.work;
  completion = option_map (λ t. slots + t) row.completion;
}

-- what a slot carries, `numbers` numbers later
abbrev pub slot_after : ℕ → Option ℕ → Option ℕ
slot_after numbers slot = option_map (λ j. numbers + j) slot

-- the rows of a log, and after them those of a later one
abbrev pub joined_rows : ℕ → ℕ → List JobRow → List JobRow → List JobRow
joined_rows numbers slots first later = first ++ map (row_after numbers slots) later

-- the slots of a log, and after them those of a later one
abbrev pub joined_slots : ℕ → Slots → Slots → Slots
joined_slots numbers first later = first ++ map (slot_after numbers) later

-- all jobs are done, and each number is below this one
pub record AreOver (rows : List JobRow) (numbers : ℕ) : Type 0 where
  pub done : (j : ℕ) → is_known rows j ≡ true → is_done rows j ≡ true
  pub below : (j : ℕ) → is_known rows j ≡ true → j < numbers
