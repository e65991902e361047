use Rattle.std.proofs.Common.{◌≡◌, length}
use Rattle.std.specs.List.{filter_map}
use Rattle.event_log.specs.Slots.{slot_by}
use Rattle.event_log.specs.Spread.{spread, AreSome}
use Rattle.event_log.proofs.slots_back.SlotsBack.pop.Given as goal

abbrev pub invariant-loop-last : goal.invariant-loop-last
invariant-loop-last l =
    (filter_map slot_by (spread l.self-inside.runs.now) ≡ filter_map slot_by (spread l.initial.self-inside.runs.now))
    × AreSome l.self-inside.runs.now

abbrev pub decreases-loop-last : goal.decreases-loop-last
decreases-loop-last l = length l.self-inside.runs.now
