use Rattle.std.proofs.Common.{◌∙◌, ap, arith, map}
use Rattle.flashplan_breaches.specs.Arrivals.{arrival_of}
use Rattle.flashplan_breaches.proofs.Trying.{keeps_plan}
use Rattle.flashplan_breaches.proofs.found.first_breach.Goals as goal

pub returns-clause-none : goal.returns-clause-none
returns-clause-none c none =
    keeps_plan c.args.plan.now c.args.times.now c.args.events.now c.deref-in_default.result.now c.slots_of-slots.result c.requires.timed
    (omega (arith, c.slots_of-slots.ensures, c.if-slots.false)) c.slots_of-slots.ensures (ap (map arrival_of) c.deref-in_default.ensures.value ∙ c.in_ok-all.ensures.all)
    (c.any_breach.ensures.none none)
