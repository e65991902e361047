-- What the fields of a die have to do with its log.
use Rattle.std.specs.Prelude.{◌≡◌, ℕ, ◌≤◌, Bool, false, length}
use Rattle.slot_types.specs.declared.plans.DiePlan.{DiePlan}
use Rattle.plan_rules.specs.Bound.{MeetsBound}
use Rattle.job_table.specs.Table.{Table}
use Rattle.die_log.specs.Model.Log.{Log, now}
use Rattle.die_log.specs.Model.Answers.{IsExact}
use Rattle.die_log.specs.Model.Flash.{cells}
use Rattle.slot_core.specs.Records.{job_records}
use Rattle.slot_core.specs.Device.{FlashState, IsFlashOf}
use Rattle.die_log.specs.Model.Start.{Start}
use Rattle.die_log.specs.Model.Opening.{IsOpening, CanBeErased}

-- The log is exact, and the table is read off it; so is the flash until a fault, and after that where each page lies.
pub record AgreeWithLog (start : Start) (log : Log) (present : ℕ) (table : Table) (failed : Bool) (f : FlashState) : Type 0 where
  pub exact : IsExact start log
  pub bound : IsOpening start
  pub left : CanBeErased start
  pub now_is : present ≡ now log
  pub tasks_are : table.tasks ≡ length start.plan.caps
  pub clock_by : table.clock ≤ present
  pub ended_is : table.ended ≡ failed
  pub jobs_are : table.jobs ≡ job_records start log
  pub places_are : f.places ≡ (cells start log).places
  pub flash : failed ≡ false → IsFlashOf start log f
