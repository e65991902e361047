use Rattle.std.proofs.Common.{take}
use Rattle.std.specs.List.{AllZip}
use Rattle.flashplan_kept_runs.specs.KeptPlans.{IsKeptPlan}
use Rattle.flashplan_kept_runs.proofs.plans.kept_plans.Given as goal

abbrev pub invariant-loop-plan : goal.invariant-loop-plan
invariant-loop-plan l = AllZip IsKeptPlan (take l.plan-index l.plans) l.store.items
