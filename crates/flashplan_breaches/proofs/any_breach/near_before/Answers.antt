use Rattle.std.proofs.Common.{arith}
use Rattle.flashplan_breaches.specs.Trials.{ApartAt}
use Rattle.flashplan_breaches.proofs.Trying.{below_more}
use Rattle.flashplan_breaches.proofs.any_breach.near_before.Goals as goal

pub loop-earlier-preserved : goal.loop-earlier-preserved
loop-earlier-preserved c =
    below_more (λ earlier. ApartAt c.args.times.now c.args.all.now earlier c.args.later) c.loop-earlier.earlier c.loop-earlier.invariant
    (c.breaks_period.ensures.apart c.if-breaks_period.false c.loop-earlier-test.true)

pub returns-clause-none : goal.returns-clause-none
returns-clause-none c none earlier below = c.loop-earlier.invariant earlier (omega (arith, below, c.loop-earlier-test.false))
