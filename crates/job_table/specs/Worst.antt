-- The job that was done with the greatest lateness.
use Rattle.std.specs.Prelude.{◌≡◌, ◌≢◌, ℕ, nat_lt, ◌==◌, ◌&&◌, ◌||◌, not, Bool, true, false, List, Option, Some, slice_get, option_map, ℤ}
use Rattle.std.specs.Prelude.{int_lt}
use Rattle.job_table.specs.Jobs.{JobRecord, is_done, completion_in, lateness_of}

-- later; or as late, and completed first; or completed in the same slot, under a smaller number
abbrev pub is_worse : ℕ → JobRecord → ℕ → JobRecord → Bool
is_worse n job m other =
    int_lt (lateness_of other) (lateness_of job)
    || (not (int_lt (lateness_of job) (lateness_of other))
    && (nat_lt (completion_in job.stage) (completion_in other.stage)
    || ((completion_in job.stage == completion_in other.stage) && nat_lt n m)))

-- the job of this number is done, and no done one is worse
pub record IsWorst (jobs : List JobRecord) (number : ℕ) : Type 0 where
  pub worst : JobRecord
  pub is_at : slice_get jobs number ≡ Some worst
  pub done : is_done worst.stage ≡ true
  pub most : (m : ℕ) (other : JobRecord) → slice_get jobs m ≡ Some other → is_done other.stage ≡ true → is_worse m other number worst
      ≡ false

abbrev pub NothingDone : List JobRecord → Type 0
NothingDone jobs = (n : ℕ) (job : JobRecord) → slice_get jobs n ≡ Some job → is_done job.stage ≡ false

abbrev pub lateness_at : List JobRecord → ℕ → Option ℤ
lateness_at jobs number = option_map lateness_of (slice_get jobs number)

-- The worst of the others, before one that has just been done is compared with it

pub record IsDoneAt (jobs : List JobRecord) (number : ℕ) : Type 0 where
  pub job : JobRecord
  pub is_at : slice_get jobs number ≡ Some job
  pub done : is_done job.stage ≡ true

pub record IsWorstBeside (jobs : List JobRecord) (number w : ℕ) : Type 0 where
  pub other_one : w ≢ number
  pub worst : JobRecord
  pub is_at : slice_get jobs w ≡ Some worst
  pub done : is_done worst.stage ≡ true
  pub most : (m : ℕ) (other : JobRecord) → m ≢ number → slice_get jobs m ≡ Some other → is_done other.stage ≡ true
      → is_worse m other w worst ≡ false

abbrev pub NothingDoneBeside : List JobRecord → ℕ → Type 0
NothingDoneBeside jobs number = (m : ℕ) (other : JobRecord) → m ≢ number → slice_get jobs m ≡ Some other → is_done other.stage ≡ false
