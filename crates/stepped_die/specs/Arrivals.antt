-- Jobs and collections that arrive while a slot has begun.
use Rattle.std.specs.Prelude.{ℕ, ◌<◌}
use Rattle.slot_types.specs.declared.events.Event.{Event}
use Rattle.slot_types.specs.declared.events.Event.TheVariants as events

-- a job or collection that is released after the present slot
abbrev pub WaitsAfter : ℕ → Event → Type 0
WaitsAfter present (events.Submit task release due ops) = present < release
WaitsAfter present (events.Collect task release due) = present < release
WaitsAfter present events.Slot = ⊥
