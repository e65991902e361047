use Rattle.std.proofs.Common.{ℕ, ◌<◌}
use Rattle.plan_rules.specs.Walks.{IsTaskKept}
use Rattle.plan_rules.proofs.keeping.is_each_task_kept.Given as goal

abbrev pub invariant-loop-task : goal.invariant-loop-task
invariant-loop-task l = (k : ℕ) → k < l.task → IsTaskKept l.times k l.events
