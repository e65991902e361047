-- The notes of a log, which tell its entries with what the jobs keep.
use Rattle.std.specs.Prelude.{◌≡◌, ℕ, List, drop, reverse}
use Rattle.job_table.specs.Jobs.{JobRecord}
use Rattle.event_log.specs.Notes.{Note}
use Rattle.event_log.specs.Entries.{entries_of}
use Rattle.die_log.specs.Model.Log.{Log}

-- these are the notes of the log's entries from this one on, the oldest first
pub record TellsRest (log : Log) (from : ℕ) (rest : List Note) : Type 0 where
  pub jobs : List JobRecord
  pub notes : List Note
  pub log_is : log ≡ entries_of jobs notes
  pub rest_is : rest ≡ drop from (reverse notes)
