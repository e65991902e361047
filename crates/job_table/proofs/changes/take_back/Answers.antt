use Rattle.std.proofs.Common.{List, sym, ap, ◌∙◌, take_all}
use Rattle.slot_types.specs.declared.replies.Waived.{Waived}
use Rattle.job_table.specs.declared.stages.Stage.TheVariants as stages
use Rattle.job_table.specs.Jobs.{JobRecord, with_stage}
use Rattle.job_table.specs.Reserves.{KeptJobs}
use Rattle.job_table.specs.Table.{changed_at}
use Rattle.job_table.specs.Waivers.{without_waivers}
use Rattle.job_table.proofs.Waivers.{without_more, waived_in_range, length-without_waivers}
use Rattle.job_table.proofs.changes.take_back.Goals as goal

pub set_stage-requires : goal.set_stage-requires
set_stage-requires c =
    let lt = waived_in_range c.args.jobs.now.jobs c.args.waived.now c.loop-w.w-index c.w-item.result c.requires c.loop-w-test.true c.w-item.is in
    rw (c.loop-w.invariant, length-without_waivers) lt

pub loop-w-preserved : goal.loop-w-preserved
loop-w-preserved c =
    let set : KeptJobs → KeptJobs = λ kept. record kept { jobs = changed_at kept.jobs c.w-item.result.number (with_stage stages.Pending) } in
    c.set_stage.ensures ∙ ap set c.loop-w.invariant
    ∙ ap (λ (l : List JobRecord). record c.args.jobs.now { jobs = l }) (sym (without_more c.args.jobs.now.jobs c.args.waived.now c.loop-w.w-index c.w-item.result c.loop-w-test.true c.w-item.is))

pub returns : goal.returns
returns c = c.loop-w.invariant ∙ ap (λ (ws : List Waived). record c.args.jobs.now { jobs = without_waivers c.args.jobs.now.jobs ws }) (take_all c.loop-w.w-index c.args.waived.now c.loop-w-test.false)
