use Rattle.std.proofs.Common.{All, subst, arith}
use Rattle.std.proofs.lemmas.List.{take_all}
use Rattle.demand_trials.specs.Repeats.{AreDueBy}
use Rattle.demand_trials.proofs.Multiples.{with_next}
use Rattle.demand_trials.proofs.repeats.last_deadline.Goals as goal

pub loop-task-preserved : goal.loop-task-preserved
loop-task-preserved c =
    record {
      within = grind (arith, c.max-last.ensures, c.max.ensures, c.loop-task.invariant.within, c.requires.limits);
      due = with_next c.args.tasks.now c.loop-task.task-index _ c.loop-task.last c.max.result c.max-last.result c.loop-task-test.true
          c.max.ensures c.max-last.ensures c.loop-task.invariant.due;
    }

pub returns-clause-due : goal.returns-clause-due
returns-clause-due c = subst (All (AreDueBy c.loop-task.last)) (take_all c.loop-task.task-index c.args.tasks.now (omega (arith, c.loop-task-test.false))) c.loop-task.invariant.due
