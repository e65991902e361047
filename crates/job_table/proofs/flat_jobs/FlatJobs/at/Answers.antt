use Rattle.std.proofs.Common.{List, Some, sym, ap, ◌∙◌}
use Rattle.slot_types.specs.declared.pages.PageData.{PageData}
use Rattle.job_table.specs.Flat.{job_at}
use Rattle.job_table.proofs.Laying.{row_read, job_there}
use Rattle.job_table.proofs.Kept.{jobs_of}
use Rattle.job_table.proofs.flat_jobs.FlatJobs.at.Goals as goal

pub invariant_of-result : goal.invariant_of-result
invariant_of-result c =
    let at_n = row_read c.self.inside.rows.items c.self.inside.ops.ops c.self.inside.reads.items c.args.self.now.jobs c.number.inside.0 c.args.number
    c.index.result.now (jobs_of c.self.view_is) c.number.view_is c.requires c.index.ensures in
    rw c.as_slice.ensures.value (c.self.invariant.0.each c.number.inside.0 c.index.result.now at_n)

pub returns : goal.returns
returns c =
    let at_n = row_read c.self.inside.rows.items c.self.inside.ops.ops c.self.inside.reads.items c.args.self.now.jobs c.number.inside.0 c.args.number
    c.index.result.now (jobs_of c.self.view_is) c.number.view_is c.requires c.index.ensures in
    job_there c.self.inside.rows.items c.self.inside.ops.ops c.self.inside.reads.items c.args.self.now.jobs c.number.inside.0 c.args.number
    (Some c.index.result.now) (jobs_of c.self.view_is) c.number.view_is at_n
    ∙ ap (λ (l : List PageData). Some (job_at c.self.inside.ops.ops l c.index.result.now)) (sym c.as_slice.ensures.value)
