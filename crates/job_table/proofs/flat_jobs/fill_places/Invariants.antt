use Rattle.std.proofs.Common.{◌≡◌, ◌+◌, ◌++◌, replicate, vec_len, vec_capacity}
use Rattle.job_table.specs.Flat.{blank}
use Rattle.job_table.proofs.flat_jobs.fill_places.Given as goal

abbrev pub invariant-loop-place : goal.invariant-loop-place
invariant-loop-place l = record {
  reads : l.reads.items ≡ l.fn.reads.items ++ replicate l._place blank;
  len : vec_len l.reads ≡ vec_len l.fn.reads + l._place;
  room : vec_capacity l.reads ≡ vec_capacity l.fn.reads;
}
