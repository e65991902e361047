use Rattle.flashplan_breaches.proofs.Breaking.{not_both, there_is}
use Rattle.flashplan_breaches.specs.Arrivals.{arrival_of}
use Rattle.flashplan_breaches.proofs.breaches.breaks_job.Goals as goal

pub returns-then-not-a : goal.returns-then-not-a
returns-then-not-a c broken = record {
  arrival = arrival_of c.in-Some.a;
  there = there_is c.args.all.now c.args.place c.in-Some.a c.in-Some.ensures;
  job = c.if-not-a.true;
  broken = λ holds. not_both _ broken (c.job_holds.ensures.1 holds);
}
