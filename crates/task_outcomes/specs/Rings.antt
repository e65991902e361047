-- How a queue lies in memory: what became of each job, and the pages of all reads one after the other.
use Rattle.std.specs.Prelude.{◌≡◌, ℕ, ◌≤◌, List, [], ◌∷◌, length, take, drop, sum_by, Option, Some, None}
use Rattle.slot_types.specs.declared.pages.PageData.{PageData}
use Rattle.task_outcomes.specs.declared.task_outcome.TaskOutcome.{TaskOutcome}
use Rattle.task_outcomes.specs.declared.done_job.DoneJob.{DoneJob}

abbrev pub with_reads : DoneJob → List PageData → TaskOutcome
with_reads j reads = record {
  task = j.task;
  life = j.life;
  job = j.job;
  release = j.release;
  due = j.due;
  completion = j.completion;
  lateness = j.lateness;
  reads = reads;
}

-- each with as many of the pages as its reads gave
abbrev pub outcomes_in : List DoneJob → List PageData → List TaskOutcome
outcomes_in [] pages = []
outcomes_in (j ∷ later) pages = with_reads j (take j.reads pages) ∷ outcomes_in later (drop j.reads pages)

-- the pages are those of these jobs' reads, and there is memory for as many of both as there is room
pub record IsRing (jobs : List DoneJob) (pages : List PageData) (room capacity page_capacity : ℕ) : Type 0 where
  pub given : length pages ≡ sum_by (λ j. j.reads) jobs
  pub few_jobs : length jobs ≤ room
  pub few_pages : length pages ≤ room
  pub memory : room ≤ capacity
  pub page_memory : room ≤ page_capacity

-- this is what is reported of a job, if anything is, without these pages of its reads
abbrev pub TellsDone : List PageData → Option TaskOutcome → Option DoneJob → Type 0
TellsDone reads None None = Unit {0}
TellsDone reads (Some o) (Some j) = (o ≡ with_reads j reads) × (j.reads ≡ length reads)
TellsDone reads _ _ = ⊥
