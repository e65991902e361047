use Rattle.flashplan_breaches.proofs.Breaking.{there_is}
use Rattle.flashplan_breaches.specs.Arrivals.{arrival_of}
use Rattle.flashplan_breaches.proofs.any_breach.unplanned_at.Goals as goal

pub returns-in_ok-rule-clause-some : goal.returns-in_ok-rule-clause-some
returns-in_ok-rule-clause-some c = record {
  arrival = arrival_of c.in_ok-a.a;
  there = there_is c.args.all.now c.args.place c.in_ok-a.a c.in_ok-a.ensures;
  collects = c.if-a.true;
  broken = c.in_ok-rule.ensures.broken;
}

pub returns-in_ok-rule-2-clause-some : goal.returns-in_ok-rule-2-clause-some
returns-in_ok-rule-2-clause-some c = record {
  arrival = arrival_of c.in_ok-a.a;
  there = there_is c.args.all.now c.args.place c.in_ok-a.a c.in_ok-a.ensures;
  job = c.if-a.false;
  broken = c.in_ok-rule-2.ensures.broken;
}
