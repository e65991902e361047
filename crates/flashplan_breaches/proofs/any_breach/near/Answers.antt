use Rattle.std.proofs.Common.{arith, refl}
use Rattle.flashplan_breaches.specs.Trials.{ApartBefore}
use Rattle.flashplan_breaches.proofs.Trying.{apart_all, below_more}
use Rattle.flashplan_breaches.proofs.any_breach.near.Goals as goal

pub loop-later-preserved : goal.loop-later-preserved
loop-later-preserved c =
    below_more (ApartBefore c.args.times.now c.args.all.now) c.loop-later.later c.loop-later.invariant (c.in_default.ensures.none refl)

pub returns-clause-none : goal.returns-clause-none
returns-clause-none c none =
    apart_all c.args.times.now c.args.all.now c.loop-later.later (omega (arith, c.loop-later-test.false, c.loop-later.auto.later-end))
    c.loop-later.invariant
