use Rattle.std.proofs.Common.{◌≡◌, ◌+◌, ◌++◌, drop, map}
use Rattle.plan_rules.specs.Keeping.{arrivals, slots}
use Rattle.flashplan_breaches.specs.Arrivals.{arrival_of}
use Rattle.flashplan_breaches.proofs.coming.arrivals_in.Given as goal

abbrev pub invariant-loop-event : goal.invariant-loop-event
invariant-loop-event l = record {
  rest : map arrival_of l.all.items ++ arrivals l.now (drop l.event-index l.events) ≡ arrivals 0 l.events;
  counted : l.now + slots (drop l.event-index l.events) ≡ slots l.events;
}
