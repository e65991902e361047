use Rattle.std.proofs.Common.{◌≡◌, List, get_or, sum_by, subst, arith}
use Rattle.std.proofs.lemmas.List.{take_all}
use Rattle.demand_rules.specs.declared.terms.TaskTerms.{TaskTerms}
use Rattle.demand_rules.specs.Demand.{no_terms, task_demand_in}
use Rattle.demand_rules.proofs.Steadying.{same_demand, steady_more}
use Rattle.demand_rules.proofs.intervals.last_deadline.Goals as goal

pub loop-task-preserved : goal.loop-task-preserved
loop-task-preserved c = record {
  below = c.later-last.ensures.one c.args.end c.loop-task.invariant.below c.task_deadline.ensures.below;
  steady = λ plan first second a b d e.
      let own = c.later-last.ensures.second in
      let old = c.later-last.ensures.first in
      steady_more plan c.args.tasks.now c.loop-task.task-index no_terms first second c.loop-task-test.true
      (c.loop-task.invariant.steady plan first second (omega (arith, a, old)) b (omega (arith, d, old)) e)
      (same_demand plan (get_or c.args.tasks.now c.loop-task.task-index no_terms) first second (c.task_deadline.ensures.jobs first second (omega (arith, a, own)) b (omega (arith, d, own)) e)
      (c.task_deadline.ensures.collections first second (omega (arith, a, own)) b (omega (arith, d, own)) e));
}

pub returns-clause-steady : goal.returns-clause-steady
returns-clause-steady c plan first second a b d e =
    subst (λ (ts : List TaskTerms). sum_by (task_demand_in plan first) ts ≡ sum_by (task_demand_in plan second) ts)
    (take_all c.loop-task.task-index c.args.tasks.now (omega (arith, c.loop-task-test.false)))
    (c.loop-task.invariant.steady plan first second a b d e)
