-- What became of the jobs and collections of a log.
use Rattle.std.specs.Prelude.{ℕ, ◌==◌, nat_le, Bool, true, false, ℤ, List, map, filter, Option, Some, None}
use Rattle.slot_types.specs.declared.plans.DiePlan.{DiePlan}
use Rattle.slot_types.specs.declared.replies.Waived.{Waived}
use Rattle.late_cert.specs.Schedule.{lateness_of as lateness_by}
use Rattle.job_table.specs.Jobs.{JobRecord}
use Rattle.job_table.specs.declared.stages.Stage.{Stage}
use Rattle.job_table.specs.declared.stages.Stage.TheVariants as stages
use Rattle.die_log.specs.Model.Log.{Log, Job, jobs, now, waived_collections}
use Rattle.die_log.specs.Model.Work.{is_done, lateness_of}
use Rattle.slot_core.specs.Records.{waiver_among}
use Rattle.flashplan_run_figures.specs.declared.ends.Ended.{Ended}
use Rattle.flashplan_run_figures.specs.declared.ends.Ended.TheVariants as ended
use Rattle.flashplan_run_figures.specs.declared.ends.JobEnd.{JobEnd}
use Rattle.flashplan_script_runs.specs.declared.refused.RefusedRow.{RefusedRow}

-- waived, or done with this lateness, or it waits, and is late or may be in time
abbrev pub ended_as : Option Waived → Bool → ℤ → Bool → Ended
ended_as (Some waiver) done lateness late = ended.Waived
ended_as None true lateness late = ended.Done lateness
ended_as None false lateness late = ended.Waiting late

-- what became of a job or a collection by the end of a log; one that waits is late where its deadline isn't after the slots
-- that were carried out
abbrev pub end_of : DiePlan → Log → Job → JobEnd
end_of plan log j = record {
  task = j.task;
  collects = j.collects;
  ended = ended_as (waiver_among j.number (waived_collections log)) (is_done plan log j) (lateness_of log j) (nat_le j.due (now log));
}

-- of all, by number
abbrev pub ends_of : DiePlan → Log → List JobEnd
ends_of plan log = map (end_of plan log) (jobs log)

-- rows of a die that were refused
abbrev pub refused_end : RefusedRow → JobEnd
refused_end row = record { task = row.asker.task; collects = row.asker.collects; ended = ended.Refused }

abbrev pub is_on : ℕ → RefusedRow → Bool
is_on die row = row.asker.die == die

abbrev pub refused_ends : ℕ → List RefusedRow → List JobEnd
refused_ends die rows = map refused_end (filter (is_on die) rows)

-- As the table of a die has them

abbrev pub ended_in : Stage → ℕ → ℕ → Ended
ended_in stages.Pending due slots = ended.Waiting (nat_le due slots)
ended_in (stages.Waived given) due slots = ended.Waived
ended_in (stages.Done completion given) due slots = ended.Done (lateness_by completion due)

abbrev pub end_in : ℕ → JobRecord → JobEnd
end_in slots job = record { task = job.task; collects = job.collects; ended = ended_in job.stage job.due slots }
