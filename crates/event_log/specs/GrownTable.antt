-- What notes name stands in the jobs, and goes on standing as these grow.
use Rattle.std.specs.Prelude.{◌≡◌, ℕ, true, List, ◌++◌, Some, slice_get}
use Rattle.std.specs.List.{AllByRecursion}
use Rattle.slot_types.specs.declared.events.Op.{Op}
use Rattle.slot_types.specs.declared.pages.PageData.{PageData}
use Rattle.job_table.specs.Jobs.{JobRecord, is_read}
use Rattle.event_log.specs.declared.deeds.Deed.{Deed}
use Rattle.event_log.specs.declared.deeds.Deed.TheVariants.{Submit, Collect, Operation, LastOperation}
use Rattle.event_log.specs.Notes.{Note}
use Rattle.event_log.specs.Entries.{reads_before}

-- a job of this number is there, and its operation at this place was done: if it is a read, its bytes are kept
pub record HasDone (jobs : List JobRecord) (number place : ℕ) : Type 0 where
  pub job : JobRecord
  pub is_at : slice_get jobs number ≡ Some job
  pub op : Op
  pub stands : slice_get job.ops place ≡ Some op
  pub gave : is_read op ≡ true → (bytes : PageData) × (slice_get job.reads (reads_before job place) ≡ Some bytes)

-- what it names stands in the jobs
abbrev pub Fits : List JobRecord → Deed → Type 0
Fits jobs (Submit number) = (job : JobRecord) × (slice_get jobs number ≡ Some job)
Fits jobs (Collect number) = (job : JobRecord) × (slice_get jobs number ≡ Some job)
Fits jobs (Operation number place) = HasDone jobs number place
Fits jobs (LastOperation number place) = HasDone jobs number place
Fits jobs _ = Unit {0}

abbrev pub AllFit : List JobRecord → List Note → Type 0
AllFit jobs notes = AllByRecursion (λ s. Fits jobs s.deed) notes

-- a job's operations stay, and its reads stay with maybe more after
pub record IsGrown (old new : JobRecord) : Type 0 where
  pub task_is : new.task ≡ old.task
  pub release_is : new.release ≡ old.release
  pub due_is : new.due ≡ old.due
  pub ops_are : new.ops ≡ old.ops
  pub more : List PageData
  pub reads_are : new.reads ≡ old.reads ++ more

-- what became of the job that stood at a place
pub record GrewAt (jobs : List JobRecord) (number : ℕ) (old : JobRecord) : Type 0 where
  pub job : JobRecord
  pub is_at : slice_get jobs number ≡ Some job
  pub grown : IsGrown old job

-- each job grew, and there may be more
pub record Grew (old new : List JobRecord) : Type 0 where
  pub each : (number : ℕ) (job : JobRecord) → slice_get old number ≡ Some job → GrewAt new number job
