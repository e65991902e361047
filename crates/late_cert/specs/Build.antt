-- The certificate of a done job, by its busy interval.
use Rattle.std.specs.Prelude.{◌≡◌, ℕ, ◌<◌, length, slice_index_or, Bool, true, false, if◌then◌else◌, List, Option, Some, None}
use Rattle.late_cert.specs.declared.rows.JobRow.{JobRow}
use Rattle.late_cert.specs.declared.certificates.Certificate.{Certificate}
use Rattle.late_cert.specs.declared.verdicts.Verdict.{Verdict}
use Rattle.late_cert.specs.Schedule.{Slots}
use Rattle.late_cert.specs.Rows.{is_done, due_of, completion_of}
use Rattle.late_cert.specs.Bound.{IsCertificate}
use Rattle.late_cert.specs.BusyInterval.{IsBusyInterval, start_of, is_carried, jobs_of}
use Rattle.late_cert.specs.Verdict.{is_holds}
use Rattle.late_cert.specs.Check.{verdict_of}

-- the jobs of the busy interval of a done job, with its deadline and completion
abbrev pub busy_interval_of : List JobRow → Slots → ℕ → Certificate
busy_interval_of rows carried j =
    let completion = completion_of rows j in
    let start = start_of rows carried j completion in
    record { job = j; start = start; due = due_of rows j; completion = completion; jobs = jobs_of rows carried start completion }

-- the verdict on a certificate
abbrev pub verdict_on : List JobRow → Certificate → Verdict
verdict_on rows c = verdict_of rows c.start c.due c.completion c.jobs

-- the certificate of a job: none where it is not done, or where its busy interval is no certificate
abbrev pub certificate_of : List JobRow → Slots → ℕ → Option Certificate
certificate_of rows carried j =
    if is_done rows j
    then (if is_holds (verdict_on rows (busy_interval_of rows carried j)) then Some (busy_interval_of rows carried j) else None)
    else None

-- a certificate of the job's busy interval
pub record IsOwn (rows : List JobRow) (carried : Slots) (j : ℕ) (c : Certificate) : Type 0 where
  pub done : is_done rows j ≡ true
  pub job : c.job ≡ j
  pub due : c.due ≡ due_of rows j
  pub completion : c.completion ≡ completion_of rows j
  pub busy_interval : IsBusyInterval rows carried j c.start c.completion c.jobs
  pub holds : IsCertificate rows c.start c.due c.completion c.jobs

-- for each row whether a slot from start on, below n, carries it
pub record AreMarks (rows : List JobRow) (slots : Slots) (start n : ℕ) (marks : List Bool) : Type 0 where
  pub as_many : length marks ≡ length rows
  pub each : (i : ℕ) (d : JobRow) → i < length rows
      → slice_index_or marks i false ≡ is_carried slots start n (slice_index_or rows i d).number

-- the busy interval of a job, where it is done
abbrev pub busy_interval_if_done : List JobRow → Slots → ℕ → Option Certificate
busy_interval_if_done rows carried j = if is_done rows j then Some (busy_interval_of rows carried j) else None
