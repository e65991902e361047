use Rattle.std.proofs.Common.{arith}
use Rattle.plan_rules.proofs.Zips.{at_next}
use Rattle.demand_keeping.specs.Breaches.{IsTaskKept}
use Rattle.demand_keeping.proofs.AnswersOfBreaches.{none_is}
use Rattle.demand_keeping.proofs.keeping.first_broken_task.Goals as goal

pub broken_of_task-requires-clause-kept : goal.broken_of_task-requires-clause-kept
broken_of_task-requires-clause-kept c = record {
  is_task = omega (arith, c.loop-task-test.true, c.len-task-end.ensures);
  planned = c.requires.planned;
  below = c.loop-task.invariant;
}

pub loop-task-preserved : goal.loop-task-preserved
loop-task-preserved c k lt =
    at_next (λ i. IsTaskKept c.args.terms.now i c.args.events.now) c.loop-task.task c.loop-task.invariant
    (c.in_ok-breach.ensures.none (none_is _ c.in_default.is)) k lt

pub returns-clause-none : goal.returns-clause-none
returns-clause-none c none earlier lt = c.loop-task.invariant earlier (omega (arith, lt, c.loop-task-test.false, c.len-task-end.ensures))
