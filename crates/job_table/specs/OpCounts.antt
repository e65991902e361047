-- Operations with what was counted of them.
use Rattle.std.specs.Prelude.{◌≡◌, ℕ, List, count_by}
use Rattle.slot_types.specs.declared.events.Op.{Op}
use Rattle.slot_types.specs.Operations.{writes}
use Rattle.job_table.specs.Jobs.{is_read}

-- `read_count` of them read, and `write_count` write
pub record AreCounted (ops : List Op) (read_count write_count : ℕ) : Type 0 where
  pub reads_are : read_count ≡ count_by is_read ops
  pub writes_are : write_count ≡ writes ops
