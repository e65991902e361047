use Rattle.std.proofs.Common.{arith}
use Rattle.plan_rules.specs.Keeping.{IsPlanned}
use Rattle.flashplan_breaches.proofs.Trying.{holds_of_all}
use Rattle.flashplan_breaches.proofs.any_breach.unplanned.Goals as goal

pub returns-clause-none : goal.returns-clause-none
returns-clause-none c none =
    holds_of_all (IsPlanned c.args.plan.now c.args.times.now c.args.end) c.args.all.now c.loop-place.place
    (omega (arith, c.loop-place-test.false, c.loop-place.auto.place-end)) c.loop-place.invariant
