-- Pages that are a task's own, and two logs in which it asked for the same.
use Rattle.std.specs.Prelude.{◌≡◌, ℕ, [], Some, Contains, IsFalse, slice_get}
use Rattle.std.specs.List.{list_any}
use Rattle.slot_types.specs.declared.pages.PageData.{PageData}
use Rattle.slot_types.specs.declared.acts.Act.TheVariants as does
use Rattle.die_log.specs.Model.Log.{Log, Job, jobs, acts}
use Rattle.die_log.specs.Model.Flash.{content}
use Rattle.die_log.specs.Model.Start.{Start}
use Rattle.die_log.specs.Model.Opening.{IsOpening}
use Rattle.die_log.specs.Model.Answers.{IsExact}
use Rattle.task_reads.specs.Asked.{is_job_of, task_jobs, asks_of, changes, ComeInOrder}

-- no job of another task writes or trims the page
abbrev pub IsOwnPage : (task page : ℕ) → Log → Type 0
IsOwnPage task page log = (j : Job) → Contains (jobs log) j → IsFalse (is_job_of task j) → IsFalse (list_any (changes page) j.ops)

-- In both logs, each exact from its own start, the task's jobs come in order; and job by job they ask for the same.
-- Nothing is said of other tasks, of numbers, or of the slots in which anything is done.
pub record AreAskedAlike (task : ℕ) (first : Start) (one : Log) (other : Start) (two : Log) : Type 0 where
  pub opens_one : IsOpening first
  pub opens_two : IsOpening other
  pub exact_one : IsExact first one
  pub exact_two : IsExact other two
  pub order_one : ComeInOrder task one
  pub order_two : ComeInOrder task two
  pub same : asks_of task one ≡ asks_of task two

-- the page is the task's own in both, and the same stood on it at first
pub record IsOwnInBoth (task page : ℕ) (first : Start) (one : Log) (other : Start) (two : Log) : Type 0 where
  pub own_one : IsOwnPage task page one
  pub own_two : IsOwnPage task page two
  pub same : content first [] page ≡ content other [] page

-- each read of the page by the task, act by act of its jobs, gives the same bytes in both
abbrev pub ReadAlike : (task page : ℕ) → Log → Log → Type 0
ReadAlike task page one two =
    (k : ℕ) (i j : Job) → slice_get (task_jobs task one) k ≡ Some i → slice_get (task_jobs task two) k ≡ Some j → (n p : ℕ)
    (bytes given : PageData) → slice_get (acts i.number one) n ≡ Some (does.Read page bytes)
    → slice_get (acts j.number two) n ≡ Some (does.Read p given) → (p ≡ page) × (given ≡ bytes)

-- it holds of each two such logs
abbrev pub ForAskedAlike : (ℕ → Start → Log → Start → Log → Type 0) → Type 0
ForAskedAlike Holds =
    (task : ℕ) (first : Start) (one : Log) (other : Start) (two : Log) → AreAskedAlike task first one other two
    → Holds task first one other two
