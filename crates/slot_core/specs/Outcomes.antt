-- What became of the jobs and collections of a log, and who of them is worst.
use Rattle.std.specs.Prelude.{ℕ, Bool, true, false, List, [], Option, Some, None, option_map, ℤ}
use Rattle.slot_types.specs.declared.plans.DiePlan.{DiePlan}
use Rattle.slot_types.specs.declared.pages.PageData.{PageData}
use Rattle.slot_types.specs.declared.replies.Waived.{Waived}
use Rattle.job_table.specs.declared.stages.Stage.{Stage}
use Rattle.job_table.specs.declared.stages.Stage.TheVariants as stages
use Rattle.job_table.specs.Jobs.{JobRecord}
use Rattle.late_cert.specs.Schedule as slots
use Rattle.die_log.specs.Model.Log.{Log, Job, job_at, acts, waived_collections}
use Rattle.die_log.specs.Model.Work.{is_done, completion, lateness_of, worst}
use Rattle.slot_core.specs.declared.outcomes.Outcome.{Outcome}
use Rattle.slot_core.specs.declared.outcomes.Outcome.TheVariants as outcomes
use Rattle.slot_types.specs.declared.events.JobHead.{JobHead}
use Rattle.slot_core.specs.declared.outcomes.Worst.{Worst}
use Rattle.slot_core.specs.Records.{waiver_among, pages_given, reads_of}
use Rattle.die_log.specs.Model.Start.{Start}

-- waived, done or waiting
abbrev pub outcome_by : Option Waived → Bool → ℕ → ℤ → ℕ → List PageData → Outcome
outcome_by (Some w) done completion lateness given reads = outcomes.Waived w.given
outcome_by None true completion lateness given reads = outcomes.Done completion lateness given reads
outcome_by None false completion lateness given reads = outcomes.Waiting

-- what became of a job or collection of the log
abbrev pub outcome_of : Start → Log → Job → Outcome
outcome_of start log j =
    outcome_by (waiver_among j.number (waived_collections log)) (is_done start.plan log j) (completion j.number log) (lateness_of log j)
    (pages_given start j.number log) (reads_of (acts j.number log))

-- of this number, if there is one
abbrev pub outcome_at : Start → Log → ℕ → Option Outcome
outcome_at start log number = option_map (outcome_of start log) (job_at log number)

-- what the reads of a job gave, if it is done
abbrev pub reads_given : Outcome → List PageData
reads_given (outcomes.Done completion lateness given reads) = reads
reads_given _ = []

-- what it was accepted with
abbrev pub head_of : Job → JobHead
head_of j = record { collects = j.collects; task = j.task; release = j.release; due = j.due }

abbrev pub head_at : Log → ℕ → Option JobHead
head_at log number = option_map head_of (job_at log number)

-- the worst of the log, with its lateness
abbrev pub worst_as : ℕ → ℤ → Worst
worst_as number lateness = record { job = number; lateness = lateness }

abbrev pub worst_from : Log → Job → Worst
worst_from log j = worst_as j.number (lateness_of log j)

abbrev pub worst_of : DiePlan → Log → Option Worst
worst_of plan log = option_map (worst_from log) (worst plan log)

-- By a table's record of it

abbrev pub outcome_as : Stage → ℕ → List PageData → Outcome
outcome_as stages.Pending due reads = outcomes.Waiting
outcome_as (stages.Done completion given) due reads = outcomes.Done completion (slots.lateness_of completion due) given reads
outcome_as (stages.Waived given) due reads = outcomes.Waived given

abbrev pub outcome_in : JobRecord → Outcome
outcome_in r = outcome_as r.stage r.due r.reads

abbrev pub head_in : JobRecord → JobHead
head_in r = record { collects = r.collects; task = r.task; release = r.release; due = r.due }
