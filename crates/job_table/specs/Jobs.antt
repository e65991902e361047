-- A job or a collection, as the table keeps it.
use Rattle.std.specs.Prelude.{ℕ, ◌+◌, Bool, true, false, List, [], ◌∷◌, ◌++◌, Option, Some, None, slice_get, ℤ}
use Rattle.std.specs.Prelude.{pos, ◌-ℤ◌}
use Rattle.slot_types.specs.declared.events.Op.{Op}
pub use Rattle.slot_types.specs.Operations.{is_read}
use Rattle.slot_types.specs.declared.pages.PageData.{PageData}
use Rattle.job_table.specs.declared.stages.Stage.{Stage}
use Rattle.job_table.specs.declared.stages.Stage.TheVariants.{Pending, Done, Waived}

-- what it was accepted with, how many slots it took so far, what its reads gave, and how it stands
pub record JobRecord : Type 0 where
  pub collects : Bool
  pub task : ℕ
  pub release : ℕ
  pub due : ℕ
  pub ops : List Op
  pub work : ℕ
  pub reads : List PageData
  pub stage : Stage

-- neither done nor waived
abbrev pub is_pending : Stage → Bool
is_pending Pending = true
is_pending (Done completion given) = false
is_pending (Waived given) = false

abbrev pub is_done : Stage → Bool
is_done Pending = false
is_done (Done completion given) = true
is_done (Waived given) = false

abbrev pub is_waived : Stage → Bool
is_waived Pending = false
is_waived (Done completion given) = false
is_waived (Waived given) = true

-- 1 + the slot in which it was done, or 0 if it isn't done
abbrev pub completion_in : Stage → ℕ
completion_in Pending = 0
completion_in (Done completion given) = completion
completion_in (Waived given) = 0

-- completion minus deadline
abbrev pub lateness_of : JobRecord → ℤ
lateness_of job = pos (completion_in job.stage) -ℤ pos job.due

abbrev pub is_some_read : Option Op → Bool
is_some_read None = false
is_some_read (Some op) = is_read op

-- its next operation is a read
abbrev pub reads_next : JobRecord → Bool
reads_next job = is_some_read (slice_get job.ops job.work)

-- a job or a collection that has not begun
abbrev pub new_record : Bool → ℕ → ℕ → ℕ → List Op → JobRecord
new_record collects task release due ops =
    record { collects = collects; task = task; release = release; due = due; ops = ops; work = 0; reads = []; stage = Pending }

-- a job that has not begun
abbrev pub new_job : ℕ → ℕ → ℕ → List Op → JobRecord
new_job task release due ops = new_record false task release due ops

-- a collection that has not begun
abbrev pub new_collection : ℕ → ℕ → ℕ → JobRecord
new_collection task release due = new_record true task release due []

-- it took one more slot
abbrev pub with_one_more_slot : JobRecord → JobRecord
with_one_more_slot job = record job { work = job.work + 1 }

-- one of its reads gave these bytes
abbrev pub with_read : PageData → JobRecord → JobRecord
with_read bytes job = record job { reads = job.reads ++ bytes ∷ [] }

abbrev pub with_stage : Stage → JobRecord → JobRecord
with_stage stage job = record job { stage = stage }
