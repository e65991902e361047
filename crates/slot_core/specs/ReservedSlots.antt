-- Room that a die keeps beforehand, so that its slots take no memory, and neither does what arrives while that is reserved.
use Rattle.std.specs.Prelude.{ℕ, ◌+◌, ◌≤◌, ◌&&◌, Bool, List, count_by}
use Rattle.job_table.specs.Jobs.{JobRecord, is_pending}
use Rattle.slot_core.specs.Core.{Reserved, IsWithin}

-- a collection that is neither done nor waived
abbrev pub is_open : JobRecord → Bool
is_open job = job.collects && is_pending job.stage

abbrev pub open_collections : List JobRecord → ℕ
open_collections jobs = count_by is_open jobs

-- the log has room for the reserved slots and arrivals, and for a waiver of each collection that is neither done nor
-- waived, or may arrive
pub record HasReservedRoom (slots arrivals : ℕ) (jobs : List JobRecord) (room waiver_room : ℕ) : Type 0 where
  pub entries : slots + arrivals ≤ room
  pub waivers : open_collections jobs + arrivals ≤ waiver_room

-- no more is reserved than is from the beginning of a log on, and an empty log has memory for that: for the slots and the
-- arrivals, and for a waiver of each of these
pub record HasLastingRoom (reserved lasting : Reserved) (memory waiver_memory : ℕ) : Type 0 where
  pub within : IsWithin reserved lasting
  pub entries : lasting.slots + lasting.arrivals ≤ memory
  pub waivers : lasting.arrivals ≤ waiver_memory
