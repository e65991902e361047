use Rattle.std.proofs.Common.{◌≡◌, ◌+◌, drop}
use Rattle.plan_rules.specs.Keeping.{slots}
use Rattle.plan_rules.specs.Walks.{planned_from}
use Rattle.plan_rules.proofs.keeping.are_planned.Given as goal

abbrev pub invariant-loop-event : goal.invariant-loop-event
invariant-loop-event l = record {
  rest : planned_from l.plan l.times l.end 0 l.events ≡ planned_from l.plan l.times l.end l.now (drop l.event-index l.events);
  counted : l.now + slots (drop l.event-index l.events) ≡ slots l.events;
}
