-- The jobs and collections of a log in short.
use Rattle.std.specs.Prelude.{ℕ, Option, option_map}
use Rattle.slot_types.specs.declared.plans.DiePlan.{DiePlan}
use Rattle.slot_types.specs.declared.events.JobHead.{JobHead}
use Rattle.job_table.specs.Jobs.{JobRecord}
use Rattle.die_log.specs.Model.Log.{Log, Job, job_at, work}
use Rattle.slot_core.specs.declared.outcomes.Outcome.{Outcome}
use Rattle.slot_core.specs.Outcomes.{outcome_of, outcome_in, head_of, head_in}
use Rattle.die_log.specs.Model.Start.{Start}

-- what a job or a collection was accepted with, how many slots it took, and what became of it
pub record JobSummary : Type 0 where
  pub head : JobHead
  pub work : ℕ
  pub outcome : Outcome

-- a job or collection of the log in short
abbrev pub summary_of : Start → Log → Job → JobSummary
summary_of start log j = record { head = head_of j; work = work j.number log; outcome = outcome_of start log j }

-- of this number, if there is one
abbrev pub summary_at : Start → Log → ℕ → Option JobSummary
summary_at start log number = option_map (summary_of start log) (job_at log number)

-- by a table's record of it
abbrev pub summary_in : JobRecord → JobSummary
summary_in r = record { head = head_in r; work = r.work; outcome = outcome_in r }
