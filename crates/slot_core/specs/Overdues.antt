-- Work that is overdue.
use Rattle.std.specs.Prelude.{ℕ, ◌+◌, ◌-◌, nat_le, if◌then◌else◌, Option, Some, None, option_map, slice_get}
use Rattle.slot_types.specs.declared.plans.DiePlan.{DiePlan}
use Rattle.job_table.specs.Jobs.{JobRecord}
use Rattle.job_table.specs.Table.{Table}
use Rattle.die_log.specs.Model.Log.{Log, Job, now}
use Rattle.die_log.specs.Results.Overdue.{overdue}
use Rattle.slot_core.specs.declared.overdues.Overdue.{Overdue}

-- how late it is if it is done in the present slot
abbrev pub overdue_as : ℕ → ℕ → ℕ → Overdue
overdue_as present number due = record { job = number; due = due; late_by = present + 1 - due }

-- the first of a log's overdue work, and how late it will be at least
abbrev pub overdue_of : DiePlan → Log → Option Overdue
overdue_of plan log = option_map (λ (j : Job). overdue_as (now log) j.number j.due) (overdue plan log)

-- By a table's record of it

abbrev pub overdue_by : ℕ → ℕ → Option JobRecord → Option Overdue
overdue_by present number None = None
overdue_by present number (Some job) = if nat_le job.due present then Some (overdue_as present number job.due) else None

abbrev pub overdue_in : Table → ℕ → ℕ → Option Overdue
overdue_in table number present = overdue_by present number (slice_get table.jobs number)
