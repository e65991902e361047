use Rattle.flashplan_run_figures.proofs.TaskRecords.{none_yet, one_more}
use Rattle.flashplan_run_figures.proofs.records.tasks_of.Goals as goal

pub loop-place-init : goal.loop-place-init
loop-place-init c = none_yet c.args.die.now.ends.now c.args.die.now.counts.now.tasks.items _ c.new-tasks.ensures.items

pub loop-place-preserved : goal.loop-place-preserved
loop-place-preserved c =
    one_more _ _ _ c.index.result.now _ _ c.in_ok-figures.figures c.index.ensures c.in_ok-figures.ensures.is c.in_ok-push.ensures.items
    c.loop-place.invariant
