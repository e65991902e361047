use Rattle.std.proofs.Common.{length, ◌-◌, ◌≤◌, take}
use Rattle.event_log.specs.SoundLog.{AreBefore}
use Rattle.event_log.proofs.waived_of.parted_at.Given as goal

abbrev pub invariant-loop-count : goal.invariant-loop-count
invariant-loop-count l = record { within : l.count ≤ length l.waivers; before : AreBefore l.place (take l.count l.waivers) }

abbrev pub decreases-loop-count : goal.decreases-loop-count
decreases-loop-count l = length l.waivers - l.count
