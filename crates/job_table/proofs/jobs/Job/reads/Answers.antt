use Rattle.std.proofs.Common.{arith}
use Rattle.job_table.proofs.jobs.Job.reads.Goals as goal

pub slice_bounds-result-end : goal.slice_bounds-result-end
slice_bounds-result-end c =
    let there = c.self.invariant.reads_there in
    omega arith
