use Rattle.std.proofs.Common.{arith}
use Rattle.job_table.proofs.flat_jobs.next_writes.Goals as goal

pub is_write_at-requires : goal.is_write_at-requires
is_write_at-requires c = omega (arith, c.requires.ops_there)
