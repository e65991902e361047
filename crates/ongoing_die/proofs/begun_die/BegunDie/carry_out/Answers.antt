use Rattle.std.proofs.Common.{map, refl, Ok, Err}
use Rattle.ongoing_log.specs.PastLives.{counted}
use Rattle.ongoing_die.specs.Standing.{OngoingParts, ask_in}
use Rattle.ongoing_die.proofs.BegunSlots.{carried_then, carried_goes_on, carried_terms, carried_core, failed_then, failed_goes_on, failed_terms, never_fails}
use Rattle.ongoing_die.proofs.CarriedSlots.{slot_first, slot_life}
use Rattle.ongoing_die.proofs.Quiet.{quiet_same}
use Rattle.ongoing_die.proofs.Rooms.{have_room}
use Rattle.ongoing_die.proofs.begun_die.BegunDie.carry_out.Goals as goal

pub invariant_of-result : goal.invariant_of-result
invariant_of-result g c =
    let within : OngoingParts g.row.N.Denot = record { die = c.self.inside.die; waiting = map ask_in c.self.inside.waiting.items } in
    let after : OngoingParts g.row.N.Denot = record { die = c.slot.new.self; waiting = map ask_in c.self.inside.waiting.items } in
    let b = c.self.invariant.0 in
    let lived = c.slot.ensures.lived (counted b.begins.begun.stands.past) b.begins.lived in (
      carried_goes_on c.self.inside.caller b.first b.ongoing b.before within b.begins g.N.Nand.ends g.N.Nand.failures g.N.Nand.never_fails
          c.a_die_goes_on_by_itself.ensures.goes_on b.long after refl lived c.in-Ok.reply c.in-Ok.ensures.slot,
      have_room within.die.terms after.die.terms c.self.inside.waiting.items c.self.inside.waiting.items
          (carried_terms c.self.inside.caller b.first b.ongoing b.before within b.begins g.N.Nand.ends g.N.Nand.failures g.N.Nand.never_fails
          c.a_die_goes_on_by_itself.ensures.goes_on b.long after refl lived c.in-Ok.reply c.in-Ok.ensures.slot) refl (λ task d. refl) c.self.invariant.1,
      quiet_same c.self.inside.quiet within after
          (slot_first g.N.Nand.ends g.N.Nand.failures g.N.Nand.never_fails c.self.inside.caller within.die after.die (Ok c.in-Ok.reply) c.in-Ok.ensures.slot)
          (slot_life g.N.Nand.ends g.N.Nand.failures g.N.Nand.never_fails c.self.inside.caller within.die after.die (Ok c.in-Ok.reply) c.in-Ok.ensures.slot)
          c.self.invariant.2 refl,
    )

pub returns-in-Ok-clause-slot : goal.returns-in-Ok-clause-slot
returns-in-Ok-clause-slot g c =
    let within : OngoingParts g.row.N.Denot = record { die = c.self.inside.die; waiting = map ask_in c.self.inside.waiting.items } in
    let after : OngoingParts g.row.N.Denot = record { die = c.slot.new.self; waiting = map ask_in c.self.inside.waiting.items } in
    rw (← c.self.view_is) (λ first d before h.
    carried_then c.self.inside.caller first d before within h g.N.Nand.ends g.N.Nand.failures g.N.Nand.never_fails
    c.a_die_goes_on_by_itself.ensures.goes_on c.self.invariant.0.long after refl (c.slot.ensures.lived (counted h.begun.stands.past) h.lived)
    c.in-Ok.reply c.in-Ok.ensures.slot)

pub returns-in-Ok-clause-core : goal.returns-in-Ok-clause-core
returns-in-Ok-clause-core g c =
    let within : OngoingParts g.row.N.Denot = record { die = c.self.inside.die; waiting = map ask_in c.self.inside.waiting.items } in
    let after : OngoingParts g.row.N.Denot = record { die = c.slot.new.self; waiting = map ask_in c.self.inside.waiting.items } in
    let b = c.self.invariant.0 in
    rw (← c.self.view_is)
    (carried_core c.self.inside.caller b.first b.ongoing b.before within b.begins g.N.Nand.ends g.N.Nand.failures g.N.Nand.never_fails
    c.a_die_goes_on_by_itself.ensures.goes_on b.long after refl (c.slot.ensures.lived (counted b.begins.begun.stands.past) b.begins.lived)
    c.in-Ok.reply c.in-Ok.ensures.slot)

pub invariant_of-result-in-Err : goal.invariant_of-result-in-Err
invariant_of-result-in-Err g c =
    let within : OngoingParts g.row.N.Denot = record { die = c.self.inside.die; waiting = map ask_in c.self.inside.waiting.items } in
    let after : OngoingParts g.row.N.Denot = record { die = c.slot.new.self; waiting = map ask_in c.self.inside.waiting.items } in
    let b = c.self.invariant.0 in
    let lived = c.slot.ensures.lived (counted b.begins.begun.stands.past) b.begins.lived in (
      failed_goes_on c.self.inside.caller b.first b.ongoing b.before within b.begins g.N.Nand.ends g.N.Nand.failures g.N.Nand.never_fails
          c.a_die_goes_on_by_itself.ensures.goes_on b.long after refl lived c.in-Err.field-0 c.in-Err.ensures.slot,
      have_room within.die.terms after.die.terms c.self.inside.waiting.items c.self.inside.waiting.items
          (failed_terms c.self.inside.caller b.first b.ongoing b.before within b.begins g.N.Nand.ends g.N.Nand.failures g.N.Nand.never_fails
          c.a_die_goes_on_by_itself.ensures.goes_on b.long after refl lived c.in-Err.field-0 c.in-Err.ensures.slot) refl (λ task d. refl) c.self.invariant.1,
      quiet_same c.self.inside.quiet within after
          (slot_first g.N.Nand.ends g.N.Nand.failures g.N.Nand.never_fails c.self.inside.caller within.die after.die (Err c.in-Err.field-0) c.in-Err.ensures.slot)
          (slot_life g.N.Nand.ends g.N.Nand.failures g.N.Nand.never_fails c.self.inside.caller within.die after.die (Err c.in-Err.field-0) c.in-Err.ensures.slot)
          c.self.invariant.2 refl,
    )

pub returns-in-Err-clause-slot : goal.returns-in-Err-clause-slot
returns-in-Err-clause-slot g c =
    let within : OngoingParts g.row.N.Denot = record { die = c.self.inside.die; waiting = map ask_in c.self.inside.waiting.items } in
    let after : OngoingParts g.row.N.Denot = record { die = c.slot.new.self; waiting = map ask_in c.self.inside.waiting.items } in
    rw (← c.self.view_is) (λ first d before h.
    failed_then c.self.inside.caller first d before within h g.N.Nand.ends g.N.Nand.failures g.N.Nand.never_fails
    c.a_die_goes_on_by_itself.ensures.goes_on c.self.invariant.0.long after refl (c.slot.ensures.lived (counted h.begun.stands.past) h.lived)
    c.in-Err.field-0 c.in-Err.ensures.slot)

pub returns-in-Err-clause-never : goal.returns-in-Err-clause-never
returns-in-Err-clause-never g c =
    let within : OngoingParts g.row.N.Denot = record { die = c.self.inside.die; waiting = map ask_in c.self.inside.waiting.items } in
    let after : OngoingParts g.row.N.Denot = record { die = c.slot.new.self; waiting = map ask_in c.self.inside.waiting.items } in
    let b = c.self.invariant.0 in
    λ e. absurd (never_fails c.self.inside.caller b.first b.ongoing b.before within b.begins g.N.Nand.ends g.N.Nand.failures g.N.Nand.never_fails
    c.a_die_goes_on_by_itself.ensures.goes_on b.long after refl (c.slot.ensures.lived (counted b.begins.begun.stands.past) b.begins.lived) e
    c.in-Err.field-0 c.in-Err.ensures.slot)
