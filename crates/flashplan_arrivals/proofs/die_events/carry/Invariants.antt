use Rattle.std.proofs.Common.{◌≡◌, ◌-◌, ◌++◌, replicate}
use Rattle.slot_types.specs.declared.events.Event.TheVariants as events
use Rattle.flashplan_arrivals.proofs.die_events.carry.Given as goal

abbrev pub invariant-loop : goal.invariant-loop
invariant-loop l = l.events ≡ l.initial.events ++ replicate (l.counter - l.now) events.Slot
