use Rattle.std.proofs.Common.{sym, ◌∙◌, arith}
use Rattle.flash_c.specs.Conversions.{number_in}
use Rattle.flash_c.proofs.Filling.{filled_none, filled_more, filled_all}
use Rattle.flash_c.proofs.lists.put_jobs.Goals as goal

pub loop-i-init : goal.loop-i-init
loop-i-init c = sym (filled_none number_in c.args.places.now)

pub loop-i-preserved : goal.loop-i-preserved
loop-i-preserved c =
    rw (c.job.view_is ∙ c.index-jobs-i.is, c.loop-i.invariant)
    (filled_more number_in c.args.places.now c.args.jobs.now c.loop-i.i c.index-jobs-i.result (omega arith) (omega arith))

pub returns : goal.returns
returns c = c.loop-i.invariant ∙ filled_all number_in c.args.places.now c.args.jobs.now c.loop-i.i (omega arith)
