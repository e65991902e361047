-- Where a die's log is marked: after the slot that completed the worst.
use Rattle.std.specs.Prelude.{◌≡◌, ℕ, List, Option, Some, None, MatchOption, slice_get}
use Rattle.job_table.specs.Jobs.{JobRecord, completion_in}
use Rattle.job_table.specs.Worst.{IsWorst, NothingDone}

abbrev pub completion_of : Option JobRecord → ℕ
completion_of None = 0
completion_of (Some job) = completion_in job.stage

-- one more than the last slot of the job of this number
abbrev pub completion_at : List JobRecord → ℕ → ℕ
completion_at jobs number = completion_of (slice_get jobs number)

-- nothing is done, or `marked` is the completion of the worst
pub record MarksWorst (jobs : List JobRecord) (marked : ℕ) : Type 0 where
  pub worst : Option ℕ
  pub is : MatchOption worst (NothingDone jobs) (IsWorst jobs)
  pub done : MatchOption worst (Unit {0}) (λ number. completion_at jobs number ≡ marked)
