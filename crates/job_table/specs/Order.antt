-- Who is ready, and who is next; and who is released next.
use Rattle.std.specs.Prelude.{◌≡◌, ℕ, ◌&&◌, nat_le, nat_lt, Bool, true, false, Some, slice_get}
use Rattle.due_queue.specs.declared.keys.Key.{Key}
use Rattle.due_queue.specs.declared.keys.WaitKey.{WaitKey}
use Rattle.due_queue.specs.Keys.{is_due_before, is_released_before}
use Rattle.job_table.specs.Jobs.{JobRecord, is_pending}
use Rattle.job_table.specs.Table.{Table}

-- released by this slot, and neither done nor waived
abbrev pub is_ready : ℕ → JobRecord → Bool
is_ready clock job = nat_le job.release clock && is_pending job.stage

-- the key of a job by its number: deadline, then number
abbrev pub due_key : ℕ → JobRecord → Key
due_key number job = record { due = job.due; number = number }

-- the smaller key goes first
abbrev pub goes_before : ℕ → JobRecord → ℕ → JobRecord → Bool
goes_before m other n job = is_due_before (due_key m other) (due_key n job)

-- the job of this number is ready, and no ready one goes before it
pub record IsHead (table : Table) (number : ℕ) : Type 0 where
  pub head : JobRecord
  pub is_at : slice_get table.jobs number ≡ Some head
  pub ready : is_ready table.clock head ≡ true
  pub first : (m : ℕ) (other : JobRecord) → slice_get table.jobs m ≡ Some other → is_ready table.clock other ≡ true
      → goes_before m other number head ≡ false

abbrev pub NothingReady : Table → Type 0
NothingReady table = (n : ℕ) (job : JobRecord) → slice_get table.jobs n ≡ Some job → is_ready table.clock job ≡ false

-- Released next

-- to be released after this slot, and neither done nor waived
abbrev pub is_waiting : ℕ → JobRecord → Bool
is_waiting clock job = nat_lt clock job.release && is_pending job.stage

-- the key of a job that waits for its release: release, then number
abbrev pub release_key : ℕ → JobRecord → WaitKey
release_key number job = record { release = job.release; number = number }

-- the job of this number waits for its release, and none that waits is released before it, of equal releases none with
-- a smaller number
pub record IsNextReleased (table : Table) (number : ℕ) : Type 0 where
  pub job : JobRecord
  pub is_at : slice_get table.jobs number ≡ Some job
  pub waits : is_waiting table.clock job ≡ true
  pub first : (m : ℕ) (other : JobRecord) → slice_get table.jobs m ≡ Some other → is_waiting table.clock other ≡ true
      → is_released_before (release_key m other) (release_key number job) ≡ false

abbrev pub NothingWaiting : Table → Type 0
NothingWaiting table = (n : ℕ) (job : JobRecord) → slice_get table.jobs n ≡ Some job → is_waiting table.clock job ≡ false
