-- What a certificate is, and what it says of every schedule.
use Rattle.std.specs.Prelude.{◌≡◌, ℕ, ◌+◌, ◌<◌, ◌≤◌, Bool, true, false, ◌==◌, ◌||◌, List, [], ◌∷◌, length, sum_by, ◌≤ℤ◌}
use Rattle.std.specs.List.Sorted.{IsStrictlyIncreasing}
use Rattle.late_cert.specs.declared.rows.JobRow.{JobRow}
use Rattle.late_cert.specs.Schedule.{Slots, completion_in, lateness_of, Serves}
use Rattle.late_cert.specs.Rows.{is_done, release_of, due_of, work_of}

-- the number stands in the list
abbrev pub is_listed : List ℕ → ℕ → Bool
is_listed [] k = false
is_listed (j ∷ js) k = (j == k) || is_listed js k

-- a listed job is done, took a slot at least, was released in the busy interval and is due with it
pub record IsInBusyInterval (rows : List JobRow) (start due j : ℕ) : Type 0 where
  pub done : is_done rows j ≡ true
  pub works : 0 < work_of rows j
  pub released : start ≤ release_of rows j
  pub due_by : due_of rows j ≤ due

-- a certificate: these jobs, and no idle slot, fill the slots from start to completion
pub record IsCertificate (rows : List JobRow) (start due completion : ℕ) (jobs : List ℕ) : Type 0 where
  pub filled : 0 < length jobs
  pub rising : IsStrictlyIncreasing jobs
  pub each : (j : ℕ) → is_listed jobs j ≡ true → IsInBusyInterval rows start due j
  pub sum : sum_by (work_of rows) jobs + start ≡ completion

-- every schedule that serves the jobs completes one of them with this lateness or a greater one
abbrev pub BindsEverySchedule : List JobRow → ℕ → ℕ → List ℕ → Type 0
BindsEverySchedule rows due completion jobs =
    (f : Slots) → Serves rows (is_listed jobs) f
    → (j : ℕ) × (is_listed jobs j ≡ true)
    × (lateness_of completion due ≤ℤ lateness_of (completion_in f j) (due_of rows j))
