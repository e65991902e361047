use Rattle.std.proofs.Common.{ℕ, All, take, subst, arith}
use Rattle.std.proofs.lemmas.List.{take_all}
use Rattle.std.proofs.lemmas.List.Elements.{All-more}
use Rattle.demand_trials.specs.Repeats.{Divide}
use Rattle.demand_trials.proofs.Multiples.{divides_more, still_divide}
use Rattle.demand_trials.proofs.repeats.common_of.Goals as goal

pub loop-task-preserved : goal.loop-task-preserved
loop-task-preserved c =
    let tasks = c.args.tasks.now in
    let common : ℕ = c.in_ok-common.common in
    let jobs : ℕ = c.in_ok-jobs.jobs in
    record {
      some = c.in_ok-common.ensures.some;
      within = c.in_ok-common.ensures.within;
      divide = All-more (Divide common) tasks c.loop-task.task-index _ c.loop-task-test.true
          (still_divide (take c.loop-task.task-index tasks) c.loop-task.common common
          (divides_more c.loop-task.common jobs common c.in_ok-jobs.ensures.first c.in_ok-common.ensures.first) c.loop-task.invariant.divide)
          record {
            period = divides_more _ jobs common c.in_ok-jobs.ensures.second c.in_ok-common.ensures.first;
            collect_period = c.in_ok-common.ensures.second;
          };
    }

pub returns-clause-divide : goal.returns-clause-divide
returns-clause-divide c = subst (All (Divide c.loop-task.common)) (take_all c.loop-task.task-index c.args.tasks.now (omega (arith, c.loop-task-test.false))) c.loop-task.invariant.divide
