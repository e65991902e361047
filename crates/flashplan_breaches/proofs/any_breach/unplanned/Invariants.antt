use Rattle.plan_rules.specs.Keeping.{IsPlanned}
use Rattle.flashplan_breaches.proofs.Trying.{HoldsBelow}
use Rattle.flashplan_breaches.proofs.any_breach.unplanned.Given as goal

abbrev pub invariant-loop-place : goal.invariant-loop-place
invariant-loop-place l = HoldsBelow (IsPlanned l.plan l.times l.end) l.all l.place
