-- What an exact log keeps to: the limits of its die.
use Rattle.std.specs.Prelude.{◌≡◌, ℕ, ◌+◌, ◌<◌, ◌≤◌, false, length, Contains}
use Rattle.slot_types.specs.declared.plans.DiePlan.{DiePlan}
use Rattle.slot_types.specs.declared.limits.TheConstants.{MAX_SLOT, MAX_JOBS, MAX_OPS}
use Rattle.slot_types.specs.declared.events.Op.{Op}
use Rattle.die_log.specs.Model.Log.{Log, Job, jobs, now}
use Rattle.die_log.specs.Model.Flash.{cells, block_at}
use Rattle.slot_types.specs.Operations.{page_of}
use Rattle.die_log.specs.Model.Start.{Start}

-- a job or collection of a task of the plan, with time between its release and its deadline, and with operations on
-- pages of the die; a job has one at least
pub record IsWithinLimits (plan : DiePlan) (j : Job) : Type 0 where
  pub task : j.task < length plan.caps
  pub time : j.release < j.due
  pub due : j.due ≤ MAX_SLOT
  pub few : length j.ops ≤ MAX_OPS
  pub some : j.collects ≡ false → 0 < length j.ops
  pub pages : (op : Op) → Contains j.ops op → page_of op < plan.logical

pub record KeepsLimits (start : Start) (log : Log) : Type 0 where
  pub slots : now log ≤ MAX_SLOT
  pub few_jobs : length (jobs log) ≤ MAX_JOBS
  pub each : (j : Job) → Contains (jobs log) j → IsWithinLimits start.plan j
  pub erases : (b : ℕ) → (block_at (cells start log) b).erases ≤ (block_at start.cells b).erases + now log
