use Rattle.std.proofs.Common.{arith}
use Rattle.flashplan_breaches.proofs.Breaking.{there_is}
use Rattle.flashplan_breaches.specs.Arrivals.{arrival_of}
use Rattle.flashplan_breaches.proofs.breaches.breaks_period.Goals as goal

pub returns-in-Some-clause-near : goal.returns-in-Some-clause-near
returns-in-Some-clause-near c near = record {
  first = arrival_of c.in-Some.first;
  there = there_is c.args.all.now c.args.earlier c.in-Some.first c.in-Some.ensures;
  order = omega arith;
  near = c.is_near_at.ensures.near near;
}
