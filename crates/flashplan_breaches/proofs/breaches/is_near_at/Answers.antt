use Rattle.flashplan_breaches.proofs.Breaking.{not_both, there_is}
use Rattle.flashplan_breaches.specs.Arrivals.{arrival_of}
use Rattle.flashplan_breaches.proofs.breaches.is_near_at.Goals as goal

pub returns-in-Some-clause-near : goal.returns-in-Some-clause-near
returns-in-Some-clause-near c near = record {
  second = arrival_of c.in-Some.second;
  there = there_is c.args.all.now c.args.later c.in-Some.second c.in-Some.ensures;
  broken = λ apart. not_both _ near (c.are_apart.ensures.1 apart);
}
