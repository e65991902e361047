use Rattle.std.proofs.Common.{sym, arith}
use Rattle.job_table.specs.Reserves.{reserve_with}
use Rattle.slot_core.specs.TableLog.{log_of}
use Rattle.slot_core.proofs.Reserving.{reserved_says, reserved_jobs, arrivals_room, few_open, room_ahead, arrivals_last, waivers_last}
use Rattle.die_log.specs.Model.Start.{over}
use Rattle.slot_core.proofs.die_core.DieCore.reserve_arrivals.Goals as goal

pub waivers_ahead-waivers-requires : goal.waivers_ahead-waivers-requires
waivers_ahead-waivers-requires g c = record {
  few = omega (arith, c.self.invariant.0.kept.tasks_are, c.self.invariant.0.kept.bound.bound.limits.few_tasks);
}

pub invariant_of-self-2 : goal.invariant_of-self-2
invariant_of-self-2 g c =
    let f = c.self.inside in
    let more = reserve_with c.args.arrivals c.args.operations f.table.reserve in
    let lasts = reserve_with c.args.arrivals c.args.operations f.table.lasting in
    let ahead = room_ahead f.table.reserve.arrivals f.table.lasting.arrivals c.args.arrivals f.reserved f.lasting f.events.room
    c.reserve.new.self.room f.events.memory c.reserve.new.self.memory
    (omega (arith, c.self.invariant.1.entries)) c.in_ok-reserve.ensures.no_less
    (rw (sym c.reserved_arrivals.ensures) (rw (sym c.entries_ahead-entries.ensures) c.in_ok-reserve.ensures.room))
    c.self.invariant.3.within.arrivals c.self.invariant.3.within.slots
    (omega (arith, c.self.invariant.3.entries)) c.in_ok-reserve.ensures.memory c.in_ok-reserve.ensures.lasts in
    let kept = c.self.invariant.0.kept in (
      rw c.in_ok-reserve.ensures.events (reserved_says c.reserve-2.result (over f.volume.accounts.plan f.start) f.present f.table c.reserve-2.new.self
          more lasts f.events.notes _ _ c.reserve-2.ensures.ok c.reserve-2.ensures.err c.self.invariant.0),
      arrivals_room c.reserve-2.result f.table c.reserve-2.new.self f.reserved c.args.arrivals c.args.operations c.reserve.new.self.room
          c.reserve.new.self.waiver_room f.events.waiver_room c.reserve-2.ensures.ok c.reserve-2.ensures.err
          (omega (arith, ahead.0))
          (rw (sym c.waivers_ahead-waivers.ensures) c.in_ok-reserve.ensures.waiver_room)
          c.self.invariant.1.waivers c.in_ok-reserve.ensures.no_less_for_waivers
          (omega (
            arith,
            kept.tasks_are,
            few_open (over f.volume.accounts.plan f.start) (log_of f.table f.events.notes) f.table.jobs kept.bound kept.exact kept.jobs_are,
          )),
      rw (
        reserved_jobs c.reserve-2.result f.table c.reserve-2.new.self more lasts c.reserve-2.ensures.ok c.reserve-2.ensures.err,
        c.in_ok-reserve.ensures.marked,
      ) c.self.invariant.2,
      arrivals_last c.reserve-2.result f.table c.reserve-2.new.self f.reserved f.lasting c.args.arrivals c.args.operations
          c.reserve.new.self.memory c.reserve.new.self.waiver_memory c.reserve-2.ensures.ok c.reserve-2.ensures.err c.self.invariant.3.within ahead.1
          (waivers_last f.table.reserve.arrivals f.table.lasting.arrivals c.args.arrivals f.table.tasks c.reserve.new.self.waiver_room
          f.events.waiver_memory c.reserve.new.self.waiver_memory
          (rw (sym c.waivers_ahead-waivers.ensures) c.in_ok-reserve.ensures.waiver_room) c.self.invariant.3.within.arrivals
          c.self.invariant.3.waivers c.in_ok-reserve.ensures.waiver_memory c.in_ok-reserve.ensures.waivers_last),
    )
