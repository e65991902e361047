-- The log that a die's jobs and events tell together.
use Rattle.std.specs.Prelude.{ℕ, Bool, List}
use Rattle.slot_types.specs.declared.plans.DiePlan.{DiePlan}
use Rattle.job_table.specs.Table.{Table}
use Rattle.event_log.specs.Notes.{Note}
use Rattle.event_log.specs.Entries.{entries_of}
use Rattle.event_log.specs.GrownTable.{AllFit}
use Rattle.die_log.specs.Model.Log.{Log}
use Rattle.slot_core.specs.Device.{FlashState}
use Rattle.slot_core.specs.Agreement.{AgreeWithLog}
use Rattle.die_log.specs.Model.Start.{Start}

abbrev pub log_of : Table → List Note → Log
log_of table notes = entries_of table.jobs notes

-- the fields of a die are those of the log that they tell, and what its events name stands in the table
pub record SaysLog (start : Start) (present : ℕ) (table : Table) (notes : List Note) (failed : Bool) (f : FlashState) : Type 0 where
  pub kept : AgreeWithLog start (log_of table notes) present table failed f
  pub fits : AllFit table.jobs notes
