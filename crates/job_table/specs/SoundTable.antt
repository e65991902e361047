-- What is always true of a table.
use Rattle.std.specs.Prelude.{◌≡◌, ℕ, ◌<◌, ◌≤◌, Bool, true, false, if◌then◌else◌, List, Option, MatchOption, Some, None, slice_get}
use Rattle.std.specs.Prelude.{slice_set, slice_index_or, length, count_by}
use Rattle.slot_types.specs.declared.limits.TheConstants.{MAX_JOBS}
use Rattle.due_queue.specs.declared.keys.Key.{Key}
use Rattle.due_queue.specs.declared.keys.WaitKey.{WaitKey}
use Rattle.job_table.specs.Jobs.{JobRecord}
use Rattle.job_table.specs.Table.{is_collection_of}
use Rattle.job_table.specs.QueuedKeys.{Lines, AreQueued, AreLater}
use Rattle.job_table.specs.Worst.{IsWorst, NothingDone}

-- a collection is for one of the tasks
abbrev pub AreOfTasks : List JobRecord → ℕ → Type 0
AreOfTasks jobs tasks = (n : ℕ) (job : JobRecord) → slice_get jobs n ≡ Some job → job.collects ≡ true → job.task < tasks

-- the marks by task after this job was over
abbrev pub marks_after : Option JobRecord → List Bool → List Bool
marks_after None marks = marks
marks_after (Some job) marks = if job.collects then slice_set marks job.task false else marks

-- while the die runs, the keys are those of the pending jobs, and a task is marked where it has a pending collection,
-- of which it has one at most
pub record QueuesAgree (jobs : List JobRecord) (clock : ℕ) (collecting : List Bool) (waiting : List WaitKey) (ready : List Key) : Type 0 where
  pub queued : AreQueued jobs clock waiting ready
  pub later : AreLater clock waiting
  pub few_wait : length waiting ≤ length jobs
  pub tasks : AreOfTasks jobs (length collecting)
  pub marks : (task : ℕ) → task < length collecting → count_by (is_collection_of task) jobs
      ≡ (if slice_index_or collecting task false then 1 else 0)

pub record IsSoundTable (jobs : List JobRecord) (clock : ℕ) (ended : Bool) (collecting : List Bool) (lines : Lines) (worst : Option ℕ) : Type 0
  where
    pub few : length jobs ≤ MAX_JOBS
    pub running : ended ≡ false → QueuesAgree jobs clock collecting lines.waiting lines.ready
    pub worst_is : MatchOption worst (NothingDone jobs) (IsWorst jobs)

-- the queues have room for `arrivals` jobs more, and memory for `lasting` where none stands in them, and no more wait
-- than a table has
pub record HasQueueRoom (arrivals lasting : ℕ) (lines : Lines) : Type 0 where
  pub room : arrivals ≤ lines.room
  pub lasts : lasting ≤ lines.memory
  pub few : length lines.waiting ≤ MAX_JOBS
