use Rattle.std.proofs.Common.{◌≡◌, length, take, count_by, subst}
use Rattle.job_table.specs.Jobs.{JobRecord, is_read}
use Rattle.job_table.proofs.Reading.{reads_count}
use Rattle.job_table.proofs.jobs.Job.work.Goals as goal

pub returns-clause-reads : goal.returns-clause-reads
returns-clause-reads c =
    subst (λ (j : JobRecord). length j.reads ≡ count_by is_read (take j.work j.ops)) c.self.view_is
    (reads_count c.self.inside.ops.now.ops c.self.inside.reads.now c.self.inside.row.now c.self.invariant)
