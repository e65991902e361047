-- The outcome of the job that was done with a slot.
use Rattle.std.proofs.Common.{◌≡◌, ℕ, List, Option, Some, None, option_and_then, ap, ◌∙◌}
use Rattle.slot_types.specs.declared.pages.PageData.{PageData}
use Rattle.job_table.specs.Jobs.{JobRecord}
use Rattle.die_log.specs.Model.Log.{Log}
use Rattle.die_log.specs.Model.Start.{Start}
use Rattle.slot_core.specs.Outcomes.{head_in, outcome_in}
use Rattle.slot_core.specs.Summaries.{JobSummary, summary_at, summary_in}
use Rattle.task_outcomes.specs.declared.task_outcome.TaskOutcome.{TaskOutcome}
use Rattle.task_outcomes.specs.declared.done_job.DoneJob.{DoneJob}
use Rattle.task_outcomes.specs.Told.{told_as, told_at}
use Rattle.task_outcomes.specs.Rings.{with_reads, TellsDone}

told_done : (reads : List PageData) (o : Option TaskOutcome) (j : DoneJob) → TellsDone reads o (Some j) → o ≡ Some (with_reads j reads)
told_done reads None j h = absurd h
told_done reads (Some o) j h = ap Some h.0

pub noted : (start : Start) (began : ℕ) (log : Log) (number : ℕ) (r : JobRecord) (done : DoneJob)
    → summary_at start log number ≡ Some (summary_in r) → TellsDone r.reads (told_as began number (head_in r) (outcome_in r)) (Some done)
    → (finished : Option ℕ) → finished ≡ Some number → option_and_then (told_at start began log) finished ≡ Some (with_reads done r.reads)
noted start began log number r done summary tells finished is =
    ap (option_and_then (told_at start began log)) is
    ∙ (ap (option_and_then (λ (s : JobSummary). told_as began number s.head s.outcome)) summary
    ∙ told_done r.reads (told_as began number (head_in r) (outcome_in r)) done tells)
