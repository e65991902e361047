-- How rows and slots change from one moment to the next.
use Rattle.std.specs.Prelude.{◌≡◌, ℕ, ◌+◌, ◌≤◌, true, false, if◌then◌else◌, ◌==◌, not, ◌&&◌, ◌||◌, List, length, Option, Some}
use Rattle.late_cert.specs.declared.rows.JobRow.{JobRow}
use Rattle.late_cert.specs.Schedule.{Slots, is_named}
use Rattle.late_cert.specs.Rows.{RowsRise, is_known, is_done, release_of, due_of, work_of, completion_of}
use Rattle.late_cert.specs.BusyInterval.{is_within}

-- a job is accepted: no slot carried it, and it is not released before the next slot
pub record AcceptsJob (rows rows' : List JobRow) (carried : Slots) (j : ℕ) : Type 0 where
  pub rising : RowsRise rows'
  pub fresh : is_known rows j ≡ false
  pub known : (k : ℕ) → is_known rows' k ≡ ((j == k) || is_known rows k)
  pub done : (k : ℕ) → is_done rows' k ≡ is_done rows k
  pub releases : (k : ℕ) → is_known rows k ≡ true → release_of rows' k ≡ release_of rows k
  pub deadlines : (k : ℕ) → is_known rows k ≡ true → due_of rows' k ≡ due_of rows k
  pub works : (k : ℕ) → is_known rows k ≡ true → work_of rows' k ≡ work_of rows k
  pub completions : (k : ℕ) → is_done rows k ≡ true → completion_of rows' k ≡ completion_of rows k
  pub idle : work_of rows' j ≡ 0
  pub later : length carried ≤ release_of rows' j

-- a job that no slot carried is waived, and has no row any more
pub record WaivesJob (rows rows' : List JobRow) (j : ℕ) : Type 0 where
  pub rising : RowsRise rows'
  pub waiting : is_done rows j ≡ false
  pub idle : work_of rows j ≡ 0
  pub known : (k : ℕ) → is_known rows' k ≡ (not (j == k) && is_known rows k)
  pub done : (k : ℕ) → is_done rows' k ≡ (not (j == k) && is_done rows k)
  pub releases : (k : ℕ) → is_known rows' k ≡ true → release_of rows' k ≡ release_of rows k
  pub deadlines : (k : ℕ) → is_known rows' k ≡ true → due_of rows' k ≡ due_of rows k
  pub works : (k : ℕ) → is_known rows' k ≡ true → work_of rows' k ≡ work_of rows k
  pub completions : (k : ℕ) → is_done rows' k ≡ true → completion_of rows' k ≡ completion_of rows k

-- a slot carries a released job that is not done and has the least key of these, or nothing where there is none
pub record CarriesSlot (rows rows' : List JobRow) (carried : Slots) (slot : Option ℕ) : Type 0 where
  pub rising : RowsRise rows'
  pub head : (j : ℕ) → slot ≡ Some j
      → (is_known rows j ≡ true) × (is_done rows j ≡ false) × (release_of rows j ≤ length carried)
  pub least : (j : ℕ) → is_known rows j ≡ true → is_done rows j ≡ false → release_of rows j ≤ length carried
      → is_within rows j slot ≡ true
  pub known : (k : ℕ) → is_known rows' k ≡ is_known rows k
  pub releases : (k : ℕ) → release_of rows' k ≡ release_of rows k
  pub deadlines : (k : ℕ) → due_of rows' k ≡ due_of rows k
  pub works : (k : ℕ) → is_known rows k ≡ true → work_of rows' k ≡ work_of rows k + (if is_named k slot then 1 else 0)
  pub done : (k : ℕ) → is_done rows k ≡ true → is_done rows' k ≡ true
  pub finished : (k : ℕ) → is_done rows k ≡ false → is_done rows' k ≡ true
      → (slot ≡ Some k) × (completion_of rows' k ≡ length carried + 1)
  pub completions : (k : ℕ) → is_done rows k ≡ true → completion_of rows' k ≡ completion_of rows k
