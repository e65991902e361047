use Rattle.std.proofs.Common.{◌≡◌, ◌+◌, false, drop}
use Rattle.plan_rules.specs.Keeping.{slots}
use Rattle.plan_rules.specs.Walks.{collected_from}
use Rattle.plan_rules.proofs.keeping.is_collected.Given as goal

abbrev pub invariant-loop-event : goal.invariant-loop-event
invariant-loop-event l = record {
  rest : collected_from l.task l.period 0 false l.events ≡ collected_from l.task l.period l.now l.seen (drop l.event-index l.events);
  counted : l.now + slots (drop l.event-index l.events) ≡ slots l.events;
}
