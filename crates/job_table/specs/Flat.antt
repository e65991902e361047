-- Jobs as flat rows over two arenas: the operations of all jobs, one after another, and places for what reads give.
use Rattle.std.specs.Prelude.{◌≡◌, ◌≢◌, ◌⊎◌, ◌==◌, ℕ, ◌+◌, ◌^◌, ◌<◌, ◌≤◌, List, Some, slice_get, length, take, drop, map, count_by}
use Rattle.std.specs.Prelude.{sum_by, if◌then◌else◌, ◌*◌, ◌-◌, [], ◌∷◌, ◌++◌, slice_set, replicate}
use Rattle.slot_types.specs.declared.events.Op.{Op}
use Rattle.slot_types.specs.declared.pages.PageData.{PageData}
use Rattle.slot_types.specs.Operations.{writes}
use Rattle.job_table.specs.declared.rows.Row.{Row}
use Rattle.job_table.specs.Jobs.{JobRecord, is_read}

abbrev pub blank : PageData
blank = record { 0 = replicate 16 255 }

abbrev pub ops_at : List Op → Row → List Op
ops_at ops row = take row.op_count (drop row.first_op ops)

abbrev pub reads_at : List PageData → Row → List PageData
reads_at reads row = take row.reads_done (drop row.first_place reads)

-- the job that a row stands for
abbrev pub job_at : List Op → List PageData → Row → JobRecord
job_at ops reads row = record {
  collects = row.collects;
  task = row.task;
  release = row.release;
  due = row.due;
  ops = ops_at ops row;
  work = row.work;
  reads = reads_at reads row;
  stage = row.stage;
}

abbrev pub jobs_at : List Op → List PageData → List Row → List JobRecord
jobs_at ops reads rows = map (job_at ops reads) rows

-- how many places a row has: one for each of its reads, once it has read
abbrev pub place_count : Row → ℕ
place_count row = if row.reads_done == 0 then 0 else row.read_count

-- how many it lacks: one for each of its reads, until then
abbrev pub places_lacking : Row → ℕ
places_lacking row = if row.reads_done == 0 then row.read_count else 0

-- where its places begin, if `placed` places were given away before those that it lacks
abbrev pub place_from : ℕ → Row → ℕ
place_from placed row = if row.reads_done == 0 then placed else row.first_place

-- its operations are there, at most as many as 8 bits count; its counts are those of the reads among them, of the
-- writes before them, and of the reads and writes that it carried, its first `work` operations
pub record IsRowOf (ops : List Op) (row : Row) : Type 0 where
  pub ops_there : row.first_op + row.op_count ≤ length ops
  pub ops_few : row.op_count < 2 ^ 8
  pub first_write_is : row.first_write ≡ writes (take row.first_op ops)
  pub read_count_is : row.read_count ≡ count_by is_read (ops_at ops row)
  pub reads_done_is : row.reads_done ≡ count_by is_read (take row.work (ops_at ops row))
  pub writes_done_is : row.writes_done ≡ writes (take row.work (ops_at ops row))

-- one row of a table: what its reads gave is there as well
pub record IsRowIn (ops : List Op) (reads : List PageData) (row : Row) : Type 0 where
  pub fits : IsRowOf ops row
  pub reads_there : row.first_place + row.reads_done ≤ length reads

-- the operations of a later row lie after those of an earlier one, and no two rows share one of the places given away
pub record AreLaid (rows : List Row) (ops : List Op) (reads : List PageData) (placed : ℕ) : Type 0 where
  pub each : (n : ℕ) (row : Row) → slice_get rows n ≡ Some row → IsRowIn ops reads row
  pub ops_apart : (n m : ℕ) (row other : Row) → slice_get rows n ≡ Some row → slice_get rows m ≡ Some other → n < m
      → row.first_op + row.op_count ≤ other.first_op
  pub places_within : (n : ℕ) (row : Row) → slice_get rows n ≡ Some row → row.first_place + place_count row ≤ placed
  pub places_apart : (n m : ℕ) (row other : Row) → slice_get rows n ≡ Some row → slice_get rows m ≡ Some other → n ≢ m
      → (row.first_place + place_count row ≤ other.first_place) ⊎ (other.first_place + place_count other ≤ row.first_place)

-- the jobs have `all` reads in all: for each of them a place was given away, or one is lacking, and there is room
pub record HaveRoom (rows : List Row) (ops : List Op) (reads : List PageData) (all placed capacity : ℕ) : Type 0 where
  pub all_is : all ≡ count_by is_read ops
  pub places : placed + sum_by places_lacking rows ≡ all
  pub filled : length reads ≤ placed
  pub room : all ≤ capacity

-- how many places that were given away are still to be filled, before a row that has not read has its own
abbrev pub places_unfilled : ℕ → ℕ → Row → ℕ
places_unfilled placed len row = if row.reads_done == 0 then placed - len else 0

-- these bytes at a place, or after all others
abbrev pub with_page : List PageData → ℕ → PageData → List PageData
with_page reads place bytes = if place == length reads then reads ++ bytes ∷ [] else slice_set reads place bytes

-- a job has at most 64 operations, so 32 bits count those of all jobs
abbrev pub HasFewOps : List Row → List Op → Type 0
HasFewOps rows ops = length ops ≤ 64 * length rows
