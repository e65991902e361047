use Rattle.std.proofs.Common.{sym, arith}
use Rattle.slot_core.proofs.Reserving.{room_ahead}
use Rattle.slot_core.proofs.die_core.DieCore.reserve.Goals as goal

pub invariant_of-self-2 : goal.invariant_of-self-2
invariant_of-self-2 g c =
    let f = c.self.inside in
    let within = c.self.invariant.3.within in
    let ahead = room_ahead f.reserved f.lasting c.args.slots f.table.reserve.arrivals f.table.lasting.arrivals f.events.room
    c.reserve.new.self.room f.events.memory c.reserve.new.self.memory c.self.invariant.1.entries c.in_ok-reserve.ensures.no_less
    (rw (sym c.lasting_arrivals.ensures) (rw (sym c.entries_ahead-entries.ensures) c.in_ok-reserve.ensures.room))
    within.slots within.arrivals c.self.invariant.3.entries c.in_ok-reserve.ensures.memory c.in_ok-reserve.ensures.lasts in (
      rw c.in_ok-reserve.ensures.events c.self.invariant.0,
      record {
        entries = omega (arith, ahead.0, c.max-most.ensures);
        waivers = omega (arith, c.self.invariant.1.waivers, c.in_ok-reserve.ensures.no_less_for_waivers);
      },
      rw c.in_ok-reserve.ensures.marked c.self.invariant.2,
      record {
        within = record {
          slots = omega (arith, within.slots, c.max-most.ensures, c.max-lasting.ensures);
          arrivals = within.arrivals;
          operations = within.operations;
        };
        entries = omega (arith, ahead.1, c.max-lasting.ensures);
        waivers = omega (arith, c.self.invariant.3.waivers, c.in_ok-reserve.ensures.waiver_memory);
      },
    )
