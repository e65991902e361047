use Rattle.std.proofs.Common.{refl}
use Rattle.demand_keeping.proofs.Collected.{none_first, some_events}
use Rattle.demand_keeping.proofs.overfull.first_of_all.Goals as goal

pub loop-many-init : goal.loop-many-init
loop-many-init c = record {
  order = some_events c.args.of.period c.args.of.limit c.args.jobs.now 0 c.args.all c.in_ok-found.found refl
      (none_first c.args.of.period c.args.of.limit c.args.jobs.now) c.in_ok-found.ensures.some;
  room = none_first c.args.of.period c.args.of.limit c.args.jobs.now;
  first = c.in_ok-found.ensures.some;
}
