use Rattle.std.proofs.Common.{map, ap, refl}
use Rattle.ongoing_log.specs.PastLives.{counted}
use Rattle.planned_die.specs.Planned.{Planned}
use Rattle.ongoing_die.specs.Standing.{OngoingParts, ask_in}
use Rattle.ongoing_die.proofs.BegunSlots.{given_up, given_goes_on}
use Rattle.ongoing_die.proofs.Quiet.{quiet_same}
use Rattle.ongoing_die.proofs.Rooms.{have_room}
use Rattle.ongoing_die.proofs.begun_die.BegunDie.give_up.Goals as goal

pub invariant_of-result : goal.invariant_of-result
invariant_of-result g c =
    let within : OngoingParts g.row.N.Denot = record { die = c.self.inside.die; waiting = map ask_in c.self.inside.waiting.items } in
    let after : OngoingParts g.row.N.Denot = record { die = c.stop.new.self; waiting = map ask_in c.self.inside.waiting.items } in
    let b = c.self.invariant.0 in (
      given_goes_on c.self.inside.caller b.first b.ongoing b.before within b.begins after (λ i. record { die = c.stop.ensures.stops i; waiting = within.waiting })
          (c.stop.ensures.lived (counted b.begins.begun.stands.past) b.begins.lived) b.long,
      have_room within.die.terms after.die.terms c.self.inside.waiting.items c.self.inside.waiting.items
          (ap (λ (p : Planned g.row.N.Denot). p.terms) c.stop.ensures.stops) refl (λ task d. refl) c.self.invariant.1,
      quiet_same c.self.inside.quiet within after (ap (λ (p : Planned g.row.N.Denot). p.first) c.stop.ensures.stops)
          (ap (λ (p : Planned g.row.N.Denot). p.life) c.stop.ensures.stops) c.self.invariant.2 refl,
    )

pub returns-clause-stands : goal.returns-clause-stands
returns-clause-stands g c =
    let within : OngoingParts g.row.N.Denot = record { die = c.self.inside.die; waiting = map ask_in c.self.inside.waiting.items } in
    let after : OngoingParts g.row.N.Denot = record { die = c.stop.new.self; waiting = map ask_in c.self.inside.waiting.items } in
    rw (← c.self.view_is) (λ first d before h.
    given_up c.self.inside.caller first d before within h after (λ i. record { die = c.stop.ensures.stops i; waiting = within.waiting })
    (c.stop.ensures.lived (counted h.begun.stands.past) h.lived))

pub returns-clause-stops : goal.returns-clause-stops
returns-clause-stops g c =
    let within : OngoingParts g.row.N.Denot = record { die = c.self.inside.die; waiting = map ask_in c.self.inside.waiting.items } in
    rw (← c.self.view_is) (λ i. record { die = c.stop.ensures.stops i; waiting = within.waiting })
