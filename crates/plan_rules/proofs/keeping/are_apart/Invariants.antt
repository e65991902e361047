use Rattle.std.proofs.Common.{◌≡◌, drop}
use Rattle.plan_rules.specs.Walks.{apart_from}
use Rattle.plan_rules.proofs.keeping.are_apart.Given as goal

abbrev pub invariant-loop-event : goal.invariant-loop-event
invariant-loop-event l = apart_from l.task l.period 0 l.events ≡ apart_from l.task l.period l.from (drop l.event-index l.events)
