use Rattle.std.proofs.Common.{◌≡◌, map, take}
use Rattle.demand_rules.specs.Earlier.{as_task_terms}
use Rattle.flashplan_kept_runs.proofs.plans.tasks_of.Given as goal

abbrev pub invariant-loop-task : goal.invariant-loop-task
invariant-loop-task l = l.terms.items ≡ map as_task_terms (take l.task-index l.tasks)
