use Rattle.std.proofs.Common.{◌≡◌, ◌<◌, false, length, refl, sym, subst, arith}
use Rattle.slot_types.specs.declared.limits.TheConstants.{MAX_JOBS}
use Rattle.job_table.specs.Table.{Table}
use Rattle.job_table.specs.Entering.{MayEnter, job_of}
use Rattle.job_table.proofs.Keyed.{not_waiting, not_ready}
use Rattle.job_table.proofs.Tables.{has_entered}
use Rattle.job_table.proofs.Entered.{entered_sound}
use Rattle.job_table.proofs.job_table.JobTable.add.Goals as goal

pub mark-requires : goal.mark-requires
mark-requires c collects = (subst (λ (t : Table). MayEnter t c.args.head c.args.ops.now) (sym c.self.view_is) c.requires.collection collects).1

pub invariant_of-self-2 : goal.invariant_of-self-2
invariant_of-self-2 c =
    let few = subst (λ (t : Table). length t.jobs < MAX_JOBS) (sym c.self.view_is) c.requires.few in
    let runs = subst (λ (t : Table). t.ended ≡ false) (sym c.self.view_is) c.requires.running in
    let may = subst (λ (t : Table). MayEnter t c.args.head c.args.ops.now) (sym c.self.view_is) c.requires.collection in
    let waiting = rw (c.in_ok-number.ensures.number, c.in_ok-reserve.ensures.waiting) at c.enter.ensures.waiting in
    let ready = rw (c.in_ok-number.ensures.number, c.in_ok-reserve.ensures.ready) at c.enter.ensures.ready in
    let r = c.self.invariant.0.running runs in
    let sound = entered_sound c.self.inside.jobs.jobs c.args.head c.args.ops.now c.self.inside.clock c.self.inside.ended c.self.inside.collecting.items
    c.self.inside.queues c.enter.new.self c.self.inside.worst runs few may
    (has_entered c.self.inside.jobs.jobs (job_of c.args.head c.args.ops.now) c.self.inside.clock c.self.inside.queues.waiting
    c.enter.new.self.waiting c.self.inside.queues.ready c.enter.new.self.ready refl waiting ready r.queued r.later)
    c.self.invariant.0 in
    let waiting_few = (sound.running runs).few_wait in
    let all_few = sound.few in
    rw (c.in_ok-number.ensures.ok, c.mark.ensures) (
      sound,
      record {
        room = omega (arith, c.enter.ensures.room, c.in_ok-reserve.ensures.room, c.self.invariant.1.room);
        lasts = omega (arith, c.enter.ensures.memory, c.in_ok-reserve.ensures.memory, c.self.invariant.1.lasts);
        few = omega (arith, waiting_few, all_few);
      },
    )

pub enter-requires-clause-not_waiting : goal.enter-requires-clause-not_waiting
enter-requires-clause-not_waiting c =
    let runs = subst (λ (t : Table). t.ended ≡ false) (sym c.self.view_is) c.requires.running in
    let r = c.self.invariant.0.running runs in
    rw (c.in_ok-reserve.ensures.waiting, c.in_ok-number.ensures.number)
    (not_waiting c.self.inside.jobs.jobs c.self.inside.clock c.self.inside.queues.waiting c.self.inside.queues.ready c.args.head.release r.queued)

pub enter-requires-clause-not_ready : goal.enter-requires-clause-not_ready
enter-requires-clause-not_ready c =
    let runs = subst (λ (t : Table). t.ended ≡ false) (sym c.self.view_is) c.requires.running in
    let r = c.self.invariant.0.running runs in
    rw (c.in_ok-reserve.ensures.ready, c.in_ok-number.ensures.number)
    (not_ready c.self.inside.jobs.jobs c.self.inside.clock c.self.inside.queues.waiting c.self.inside.queues.ready c.args.head.due r.queued)
