-- Waivers beside their events: each has the place of its event, which is how many events were before it.
use Rattle.std.specs.Prelude.{ℕ, ◌==◌, if◌then◌else◌, List, Option, Some, None}
use Rattle.std.specs.List.{filter_map}
use Rattle.slot_types.specs.declared.replies.Waived.{Waived}
use Rattle.event_log.specs.declared.waivers.Waiver.{Waiver}

abbrev pub waiver_of : ℕ → Waived → Waiver
waiver_of event w = record { event = event; waived = w }

-- the collection that was waived, if it was in the event at this place
abbrev pub waived_in : ℕ → Waiver → Option Waived
waived_in place w = if w.event == place then Some w.waived else None

-- the collections that were waived in the event at this place
abbrev pub waived_at : ℕ → List Waiver → List Waived
waived_at place waivers = filter_map (λ w. waived_in place w) waivers
