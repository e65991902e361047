-- Events that come from outside: all but the slots.
use Rattle.std.specs.Prelude.{List, if◌then◌else◌}
use Rattle.slot_types.specs.declared.events.Event.{Event}
use Rattle.slot_types.specs.declared.events.Event.TheVariants as events
use Rattle.slot_types.specs.declared.events.JobHead.{JobHead}
use Rattle.slot_types.specs.declared.events.Op.{Op}

-- any event but a slot
abbrev pub IsArrival : Event → Type 0
IsArrival events.Slot = ⊥
IsArrival _ = Unit {0}

-- a job of these operations arrives, or a collection, which has none
abbrev pub arrival_of : JobHead → List Op → Event
arrival_of head ops =
    if head.collects then events.Collect head.task head.release head.due else events.Submit head.task head.release head.due ops
