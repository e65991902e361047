use Rattle.std.proofs.Common.{All, take}
use Rattle.flashplan_arrivals.specs.PlannedScripts.{HasPassed}
use Rattle.flashplan_arrivals.proofs.scripts.test_all.Given as goal

abbrev pub invariant-loop-plan : goal.invariant-loop-plan
invariant-loop-plan l = All HasPassed (take l.plan-index l.plans)
