-- The keys of a table's queues.
use Rattle.std.specs.Prelude.{◌≡◌, ◌≢◌, ℕ, ◌<◌, ◌≤◌, ◌⊎◌, true, List, [], ◌∷◌, Some, slice_get, length}
use Rattle.std.specs.List.{AllByRecursion}
use Rattle.due_queue.specs.declared.keys.Key.{Key}
use Rattle.due_queue.specs.declared.keys.WaitKey.{WaitKey}
use Rattle.due_queue.specs.Queue.{IsRising}
use Rattle.due_queue.specs.Keys.{is_due_before, is_released_before}
use Rattle.job_table.specs.Jobs.{JobRecord, is_pending}
use Rattle.job_table.specs.Order.{due_key, release_key}

-- the keys in the two queues, for how many more jobs there is room, and for how many there is memory where none stands in
-- them
pub record Lines : Type 0 where
  pub waiting : List WaitKey
  pub ready : List Key
  pub room : ℕ
  pub memory : ℕ

-- the keys rise, and each that waits has room among the released ones
pub record IsRoomy (waiting : List WaitKey) (ready : List Key) (spare : ℕ) : Type 0 where
  pub waiting_rises : IsRising is_released_before waiting
  pub ready_rises : IsRising is_due_before ready
  pub room : length waiting ≤ spare

abbrev pub IsAmong : {K : Type 0} → K → List K → Type 0
IsAmong key [] = ⊥
IsAmong key (k ∷ ks) = (k ≡ key) ⊎ IsAmong key ks

-- a key of a pending job
pub record IsWaitingKey (jobs : List JobRecord) (key : WaitKey) : Type 0 where
  pub job : JobRecord
  pub is_at : slice_get jobs key.number ≡ Some job
  pub pending_is : is_pending job.stage ≡ true
  pub release_is : key.release ≡ job.release

-- a key of a pending job that is released by this slot
pub record IsReleasedKey (jobs : List JobRecord) (clock : ℕ) (key : Key) : Type 0 where
  pub job : JobRecord
  pub is_at : slice_get jobs key.number ≡ Some job
  pub pending_is : is_pending job.stage ≡ true
  pub due_is : key.due ≡ job.due
  pub released : job.release ≤ clock

-- the keys are those of the pending jobs, each in one of the queues
pub record AreQueued (jobs : List JobRecord) (clock : ℕ) (waiting : List WaitKey) (ready : List Key) : Type 0 where
  pub waits : AllByRecursion (IsWaitingKey jobs) waiting
  pub stands : AllByRecursion (IsReleasedKey jobs clock) ready
  pub each : (n : ℕ) (job : JobRecord) → slice_get jobs n ≡ Some job → is_pending job.stage ≡ true → IsAmong (release_key n job) waiting
      ⊎ IsAmong (due_key n job) ready
  pub apart : AllByRecursion (λ (w : WaitKey). AllByRecursion (λ (k : Key). w.number ≢ k.number) ready) waiting

-- those that wait are released after this slot
abbrev pub AreLater : ℕ → List WaitKey → Type 0
AreLater clock waiting = AllByRecursion (λ (w : WaitKey). clock < w.release) waiting
