-- What a task asked for in a log, job by job, and what that leaves on a page.
use Rattle.std.specs.Prelude.{ℕ, ◌<◌, ◌≤◌, ◌==◌, ◌&&◌, not, Bool, false, if◌then◌else◌, List, [], ◌∷◌, map, filter, Contains}
use Rattle.std.specs.List.{flat_map}
use Rattle.slot_types.specs.declared.events.Op.{Op}
use Rattle.slot_types.specs.declared.events.Op.TheVariants as asks
use Rattle.slot_types.specs.declared.pages.PageData.{PageData}
use Rattle.die_log.specs.Model.Log.{Log, Job, jobs}
use Rattle.die_log.specs.Model.Start.{blank_page}

-- Jobs

-- a job of the task, and no collection
abbrev pub is_job_of : ℕ → Job → Bool
is_job_of task j = not j.collects && (j.task == task)

-- the task's jobs, in the order in which they were taken
abbrev pub task_jobs : ℕ → Log → List Job
task_jobs task log = filter (is_job_of task) (jobs log)

-- what each of them asked for
abbrev pub asks_of : ℕ → Log → List (List Op)
asks_of task log = map (λ j. j.ops) (task_jobs task log)

-- all operations of these jobs, one after the other
abbrev pub operations : List Job → List Op
operations js = flat_map (λ j. j.ops) js

-- A job that was taken after another one of the task isn't released before it, nor due before it. So it is where all jobs of
-- the task have as many slots, and are released as they come.
abbrev pub ComeInOrder : ℕ → Log → Type 0
ComeInOrder task log =
    (i j : Job) → Contains (task_jobs task log) i → Contains (task_jobs task log) j → i.number < j.number
    → (i.release ≤ j.release) × (i.due ≤ j.due)

-- Pages

-- the operation writes or trims the page
abbrev pub changes : ℕ → Op → Bool
changes page (asks.Read p) = false
changes page (asks.Write p bytes) = p == page
changes page (asks.Trim p) = p == page

-- what an operation leaves on the page, where this stood on it
abbrev pub left_by : ℕ → Op → PageData → PageData
left_by page (asks.Read p) before = before
left_by page (asks.Write p bytes) before = if p == page then bytes else before
left_by page (asks.Trim p) before = if p == page then blank_page else before

-- and what these leave on it, of which the first comes first
abbrev pub left_on : ℕ → List Op → PageData → PageData
left_on page [] before = before
left_on page (op ∷ ops) before = left_on page ops (left_by page op before)
