-- Memory that is reserved for jobs and collections that come later.
use Rattle.std.specs.Prelude.{ℕ, ◌+◌, ◌-◌, ◌<◌, ◌≤◌, max, List}
use Rattle.job_table.specs.Jobs.{JobRecord}

-- for how many more jobs and collections memory is reserved, and for how many operations of these in all
pub record Reserve : Type 0 where
  pub arrivals : ℕ
  pub operations : ℕ

abbrev pub no_reserve : Reserve
no_reserve = record { arrivals = 0; operations = 0 }

-- an arrival that has `count` operations is covered
pub record Covers (reserve : Reserve) (count : ℕ) : Type 0 where
  pub arrival : 0 < reserve.arrivals
  pub operations : count ≤ reserve.operations

-- what is left once it has come
abbrev pub reserve_after : ℕ → Reserve → Reserve
reserve_after count reserve = record { arrivals = reserve.arrivals - 1; operations = reserve.operations - count }

-- at least these arrivals and operations
abbrev pub reserve_with : ℕ → ℕ → Reserve → Reserve
reserve_with arrivals operations reserve =
    record { arrivals = max reserve.arrivals arrivals; operations = max reserve.operations operations }

-- jobs by number; the memory that is reserved beyond them, and what is reserved once all are taken away
pub record KeptJobs : Type 0 where
  pub jobs : List JobRecord
  pub reserve : Reserve
  pub lasting : Reserve

-- the rows have room for the arrivals, and the bytes of reads have it for all operations: for those that are reserved
-- beside what stands, and for those that last once it is empty, which are no fewer
pub record HasReserve (reserve lasting : Reserve) (rows row_capacity reads read_capacity : ℕ) : Type 0 where
  pub for_rows : rows + reserve.arrivals ≤ row_capacity
  pub for_reads : reads + reserve.operations ≤ read_capacity
  pub rows_last : lasting.arrivals ≤ row_capacity
  pub reads_last : lasting.operations ≤ read_capacity
  pub most_arrivals : reserve.arrivals ≤ lasting.arrivals
  pub most_operations : reserve.operations ≤ lasting.operations
