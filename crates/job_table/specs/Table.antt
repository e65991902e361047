-- The jobs and collections of a die by number, and what happens to them.
use Rattle.std.specs.Prelude.{ℕ, zero, suc, ◌&&◌, ◌==◌, Bool, false, List, [], ◌∷◌, ◌++◌, Option, Some, None, slice_get, length}
use Rattle.std.specs.List.{list_any}
use Rattle.job_table.specs.Jobs.{JobRecord, is_pending, reads_next}
use Rattle.job_table.specs.Reserves.{Reserve, no_reserve, reserve_after}

-- how many tasks there are, the slot up to which releases were looked at, whether the die has stopped, the jobs and
-- collections by number, for how many more memory is reserved, and for how many there is memory once all are taken away:
-- as many as were ever reserved
pub record Table : Type 0 where
  pub tasks : ℕ
  pub clock : ℕ
  pub ended : Bool
  pub jobs : List JobRecord
  pub reserve : Reserve
  pub lasting : Reserve

abbrev pub empty_table : ℕ → Table
empty_table tasks = record { tasks = tasks; clock = 0; ended = false; jobs = []; reserve = no_reserve; lasting = no_reserve }

-- without jobs, at slot 0 again; as much is reserved again as ever was
abbrev pub cleared_table : Table → Table
cleared_table table = record (empty_table table.tasks) { reserve = table.lasting; lasting = table.lasting }

-- one more, under the next number, for which what is reserved is used
abbrev pub with_job : Table → JobRecord → Table
with_job table job = record table { jobs = table.jobs ++ job ∷ []; reserve = reserve_after (length job.ops) table.reserve }

-- the list with the job of one number changed
abbrev pub changed_at : List JobRecord → ℕ → (JobRecord → JobRecord) → List JobRecord
changed_at [] number change = []
changed_at (job ∷ jobs) zero change = change job ∷ jobs
changed_at (job ∷ jobs) (suc number) change = job ∷ changed_at jobs number change

abbrev pub with_change : Table → ℕ → (JobRecord → JobRecord) → Table
with_change table number change = record table { jobs = changed_at table.jobs number change }

-- how many slots the job of this number took
abbrev pub work_of : Option JobRecord → ℕ
work_of None = 0
work_of (Some job) = job.work

abbrev pub work_at : List JobRecord → ℕ → ℕ
work_at jobs number = work_of (slice_get jobs number)

abbrev pub reads_next_of : Option JobRecord → Bool
reads_next_of None = false
reads_next_of (Some job) = reads_next job

-- the next operation of the job of this number is a read
abbrev pub reads_next_at : List JobRecord → ℕ → Bool
reads_next_at jobs number = reads_next_of (slice_get jobs number)

-- a collection for this task that is neither done nor waived
abbrev pub is_collection_of : ℕ → JobRecord → Bool
is_collection_of task job = job.collects && (job.task == task) && is_pending job.stage

-- the task has one
abbrev pub is_collecting : List JobRecord → ℕ → Bool
is_collecting jobs task = list_any (is_collection_of task) jobs
