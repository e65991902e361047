use Rattle.std.proofs.Common.{ap, ◌∙◌, ◌++◌, ◌∷◌, [], arith}
use Rattle.flashplan_run_figures.specs.declared.ends.JobEnd.{JobEnd}
use Rattle.flashplan_watched_runs.proofs.JobEnds.{at_most, no_more, one_end}
use Rattle.flashplan_watched_runs.proofs.reports.ends_of.Goals as goal

pub loop-number-preserved : goal.loop-number-preserved
loop-number-preserved c =
    one_end c.args.core.now.start c.args.core.now.log c.loop-number.number c.now-slots.result c.in-Some.job
    c.loop-number.ends.items c.push_end.new.ends.items c.in-Some.ensures.record c.now-slots.ensures
    (c.in_ok-push_end-in-Some.ensures.ok ∙ ap (λ (end : JobEnd). c.loop-number.ends.items ++ end ∷ []) c.end_in.ensures) c.loop-number.invariant

pub returns-in-None-clause-is : goal.returns-in-None-clause-is
returns-in-None-clause-is c =
    no_more c.args.core.now.start c.args.core.now.log c.loop-number.number _ c.in-None.ensures.record c.loop-number.invariant

pub returns-clause-is : goal.returns-clause-is
returns-clause-is c =
    at_most c.args.core.now.start c.args.core.now.log c.loop-number.number _
    (omega (
      arith,
      (c.exact_keeps_limits.ensures c.args.core.now.start c.args.core.now.log c.promises.ensures.exact).few_jobs,
      c.loop-number-test.false,
    )) c.loop-number.invariant
