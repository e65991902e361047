use Rattle.std.proofs.Common.{map}
use Rattle.planned_die.proofs.BegunSlots.{has_slot}
use Rattle.ongoing_die.specs.Standing.{OngoingParts, ask_in}
use Rattle.ongoing_die.proofs.BegunSlots.{runs, early}
use Rattle.ongoing_die.proofs.begun_die.BegunDie.next_call.Goals as goal

pub unreachable-requires : goal.unreachable-requires
unreachable-requires g c =
    let within : OngoingParts g.row.N.Denot = record { die = c.self.inside.die; waiting = map ask_in c.self.inside.waiting.items } in
    let b = c.self.invariant.0 in
    has_slot c.self.inside.die c.in-Err.field-0 c.in-Err.ensures.refused (runs c.self.inside.caller b.first b.ongoing b.before within b.begins)
    (early c.self.inside.caller b.first b.ongoing b.before within b.begins)
