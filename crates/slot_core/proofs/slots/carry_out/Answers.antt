use Rattle.std.proofs.Common.{◌≡◌, ℕ, ◌+◌, List, ◌∷◌, Option, Some, sym, ap, ◌∙◌, subst, length, arith}
use Rattle.slot_types.specs.declared.events.Event.TheVariants.{Slot}
use Rattle.slot_types.specs.declared.plans.DiePlan.{DiePlan}
use Rattle.slot_types.specs.declared.replies.SlotReply.{SlotReply}
use Rattle.slot_types.specs.declared.replies.Waived.{Waived}
use Rattle.job_table.specs.Jobs.{JobRecord}
use Rattle.job_table.specs.Reserves.{Reserve}
use Rattle.job_table.specs.Waivers.{AreWaived, WerePending, jobs_after_waivers}
use Rattle.die_log.specs.Model.Answers.{answer}
use Rattle.slot_core.specs.Device.{flash_of}
use Rattle.slot_core.specs.WithinSlot.{InSlot}
use Rattle.slot_core.proofs.Slotting.{slot_starts, idle_kept, turn_kept, turn_reads, all_waived}
use Rattle.event_log.proofs.Growing.{all_fit_stay}
use Rattle.slot_core.specs.TableLog.{log_of}
use Rattle.slot_core.proofs.Telling.{few_of, slot_grew, idle_reported}
use Rattle.slot_core.proofs.Noting.{turn_reported}
use Rattle.job_table.specs.Table.{Table, work_of}
use Rattle.slot_core.specs.Records.{job_records}
use Rattle.slot_core.specs.ReservedSlots.{open_collections}
use Rattle.slot_core.proofs.Reserving.{turn_opens_nothing, step_keeps_reserve, step_keeps_lasting}
use Rattle.event_log.specs.Slots.{carried_in}
use Rattle.slot_core.proofs.Marks.{marks_chosen, marks_step, last_alone, slots_reported}
use Rattle.slot_core.proofs.Turning.{head_fits, work_fits}
use Rattle.slot_core.proofs.Needing.{idle_makes, turn_makes, turn_fails}
use Rattle.slot_core.proofs.slots.carry_out.Goals as goal
use Rattle.die_log.specs.Model.Start.{over}

pub choose-requires : goal.choose-requires
choose-requires g c κs within = (
  within,
  (
    c.requires.1.0,
    (
      subst (λ (ws : List Waived). InSlot (over c.args.volume.now.accounts.plan g.from.0) g.from.1 c.args.present ws
          (record c.args.table.now { clock = c.args.present }) (flash_of g.N.Nand.blocks c.args.volume.now))
          (sym (ap (λ (r : SlotReply). r.waived) c.requires.1.1.1.1.1.1.1.1.1.0))
          (slot_starts g.from.0 g.N.Nand.blocks g.from.1 c.args.present c.args.table.now c.args.volume.now c.requires.1.1.1.1.1.1.1.1.0 c.requires.1.0
          c.requires.1.1.1.1.0),
      c.requires.1.1.1.1.1.0,
    ),
  ),
)

pub push_idle-requires-clause-few : goal.push_idle-requires-clause-few
push_idle-requires-clause-few g c = few_of (over c.args.volume.now.accounts.plan g.from.0) c.args.table.now.jobs c.args.events.now.notes g.from.1
    c.requires.1.1.0 c.requires.1.1.1.1.1.1.1.1.0.exact c.requires.1.1.1.0

-- An idle slot

pub returns-in_default-clause-logged : goal.returns-in_default-clause-logged
returns-in_default-clause-logged g c =
    let grew = slot_grew g.from.0 c.args.volume.now.accounts.plan c.choose.new.volume.accounts.plan g.from.1 c.args.table.now.jobs
    c.choose.new.table.jobs c.choose.new.said c.in_default.ensures.plan c.requires.1.1.1.1.1.1.1.1.0.jobs_are
    c.in_default.ensures.idle.0.table.were in
    rw (
      c.push_idle.ensures.events,
      c.as_slice.ensures,
      ap (λ (r : SlotReply). record r { waived = c.choose.new.said })
          c.requires.1.1.1.1.1.1.1.1.1.0,
    )
    (idle_reported c.args.table.now.jobs c.choose.new.table.jobs c.args.events.now.notes g.from.1 c.args.caller c.args.present c.choose.new.said
    c.requires.1.1.0 c.requires.1.1.1.0 grew c.requires.1.1.1.1.1.1.1.1.0.now_is)

pub returns-in_default-clause-fit : goal.returns-in_default-clause-fit
returns-in_default-clause-fit g c =
    let grew = slot_grew g.from.0 c.args.volume.now.accounts.plan c.choose.new.volume.accounts.plan g.from.1 c.args.table.now.jobs
    c.choose.new.table.jobs c.choose.new.said c.in_default.ensures.plan c.requires.1.1.1.1.1.1.1.1.0.jobs_are
    c.in_default.ensures.idle.0.table.were in
    rw c.push_idle.ensures.events (
      tt,
      all_fit_stay c.args.table.now.jobs c.choose.new.table.jobs c.args.events.now.notes grew
          c.requires.1.1.1.0,
    )

pub returns-in_default-clause-kept : goal.returns-in_default-clause-kept
returns-in_default-clause-kept g c =
    (idle_kept g.from.0 g.N.Nand.blocks g.from.1 (log_of c.choose.new.table c.push_idle.new.self.notes) c.args.present c.args.caller c.choose.new.said
    c.choose.new.table c.choose.new.volume _
    c.in_default.ensures.idle.0 c.in_default.ensures.idle.1 c.in_default.ensures.alive
    (ap (λ (r : SlotReply). record r { waived = c.choose.new.said }) c.requires.1.1.1.1.1.1.1.1.1.0)
    (returns-in_default-clause-logged g c)).0

pub returns-in_default-clause-answered : goal.returns-in_default-clause-answered
returns-in_default-clause-answered g c =
    ap (λ (p : DiePlan). answer (over p g.from.0) g.from.1 Slot) (sym c.in_default.ensures.plan)
    ∙ (idle_kept g.from.0 g.N.Nand.blocks g.from.1 (log_of c.choose.new.table c.push_idle.new.self.notes) c.args.present c.args.caller c.choose.new.said
    c.choose.new.table c.choose.new.volume _
    c.in_default.ensures.idle.0 c.in_default.ensures.idle.1 c.in_default.ensures.alive
    (ap (λ (r : SlotReply). record r { waived = c.choose.new.said }) c.requires.1.1.1.1.1.1.1.1.1.0)
    (returns-in_default-clause-logged g c)).1

-- A step

pub take_step-turn-requires-clause-fits : goal.take_step-turn-requires-clause-fits
take_step-turn-requires-clause-fits g c =
    head_fits g.from.0 g.N.Nand.blocks g.from.1 c.args.present c.choose.new.said c.choose.new.table c.in-Some.number c.choose.new.volume
    c.in-Some-job.job c.in-Some.ensures.turn c.in-Some-job.ensures

pub stop-requires : goal.stop-requires
stop-requires g c =
    subst (λ (ws : List Waived). AreWaived c.choose.new.table.jobs ws) (sym c.as_slice-in-Err.ensures)
    (all_waived (over c.choose.new.volume.accounts.plan g.from.0) g.from.1 c.args.present c.choose.new.said c.choose.new.table
    (flash_of g.N.Nand.blocks c.choose.new.volume) c.in-Some.number c.in-Some.ensures.turn)

pub note_step-is_worst-requires-clause-room : goal.note_step-is_worst-requires-clause-room
note_step-is_worst-requires-clause-room g c =
    work_fits (over c.choose.new.volume.accounts.plan g.from.0) g.from.1 c.args.present c.choose.new.said c.choose.new.table
    (flash_of g.N.Nand.blocks c.choose.new.volume) c.in-Some.number c.in-Some.ensures.turn

pub note_step-is_worst-requires-clause-reads : goal.note_step-is_worst-requires-clause-reads
note_step-is_worst-requires-clause-reads g c =
    turn_reads g.from.0 g.N.Nand.blocks g.from.1 c.args.present c.choose.new.said c.choose.new.table c.in-Some.number c.choose.new.volume
    c.take_step-turn.new.volume c.in-Some-job.job c.in-Ok.turn c.in-Some.ensures.turn c.in-Some-job.ensures c.in-Ok.ensures.did

pub log_step-requires-clause-few : goal.log_step-requires-clause-few
log_step-requires-clause-few g c = few_of (over c.args.volume.now.accounts.plan g.from.0) c.args.table.now.jobs c.args.events.now.notes g.from.1
    c.requires.1.1.0 c.requires.1.1.1.1.1.1.1.1.0.exact c.requires.1.1.1.0

pub returns-in-Ok-clause-logged : goal.returns-in-Ok-clause-logged
returns-in-Ok-clause-logged g c = (turn_reported g.N.Nand.blocks c.args.table.now.jobs c.args.events.now.notes c.log_step.new.events.notes
    g.from.1 c.args.caller c.args.present c.work_of-place.result c.choose.new.said c.choose.new.table c.note_step-is_worst.new.table c.in-Some.number
    c.in-Some-job.job c.choose.new.volume c.take_step-turn.new.volume c.in-Ok.turn c.deed_of-deed.result _
    c.requires.1.1.0 c.requires.1.1.1.0
    (slot_grew g.from.0 c.args.volume.now.accounts.plan c.choose.new.volume.accounts.plan g.from.1 c.args.table.now.jobs c.choose.new.table.jobs
    c.choose.new.said c.in-Some.ensures.plan c.requires.1.1.1.1.1.1.1.1.0.jobs_are c.in-Some.ensures.turn.table.were)
    c.requires.1.1.1.1.1.1.1.1.0.now_is c.in-Some-job.ensures c.in-Ok.ensures.did
    (c.work_of-place.ensures.reads c.in-Some-job.job c.in-Some-job.ensures) (c.work_of-place.ensures.work
    ∙ ap work_of c.in-Some-job.ensures)
    c.note_step-is_worst.ensures.table c.deed_of-deed.ensures (c.log_step.ensures.events
    ∙ ap (λ (ws : List Waived). record { caller = c.args.caller; deed = c.deed_of-deed.result; waived = ws } ∷ c.args.events.now.notes)
    c.as_slice-in-Ok.ensures) (ap (λ (r : SlotReply). record r
    { waived = c.choose.new.said; ran = Some (c.in-Some.number, c.in-Ok.turn.act); finished = c.finished-reply.result })
    c.requires.1.1.1.1.1.1.1.1.1.0 ∙ ap (λ (o : Option ℕ). record
    { slot = c.args.present; waived = c.choose.new.said; ran = Some (c.in-Some.number, c.in-Ok.turn.act); finished = o })
    c.finished-reply.ensures)).says

pub returns-in-Ok-clause-fit : goal.returns-in-Ok-clause-fit
returns-in-Ok-clause-fit g c = (turn_reported g.N.Nand.blocks c.args.table.now.jobs c.args.events.now.notes c.log_step.new.events.notes g.from.1
    c.args.caller c.args.present c.work_of-place.result c.choose.new.said c.choose.new.table c.note_step-is_worst.new.table c.in-Some.number
    c.in-Some-job.job c.choose.new.volume c.take_step-turn.new.volume c.in-Ok.turn c.deed_of-deed.result _
    c.requires.1.1.0 c.requires.1.1.1.0
    (slot_grew g.from.0 c.args.volume.now.accounts.plan c.choose.new.volume.accounts.plan g.from.1 c.args.table.now.jobs c.choose.new.table.jobs
    c.choose.new.said c.in-Some.ensures.plan c.requires.1.1.1.1.1.1.1.1.0.jobs_are c.in-Some.ensures.turn.table.were)
    c.requires.1.1.1.1.1.1.1.1.0.now_is c.in-Some-job.ensures c.in-Ok.ensures.did
    (c.work_of-place.ensures.reads c.in-Some-job.job c.in-Some-job.ensures) (c.work_of-place.ensures.work
    ∙ ap work_of c.in-Some-job.ensures)
    c.note_step-is_worst.ensures.table c.deed_of-deed.ensures (c.log_step.ensures.events
    ∙ ap (λ (ws : List Waived). record { caller = c.args.caller; deed = c.deed_of-deed.result; waived = ws } ∷ c.args.events.now.notes)
    c.as_slice-in-Ok.ensures) (ap (λ (r : SlotReply). record r
    { waived = c.choose.new.said; ran = Some (c.in-Some.number, c.in-Ok.turn.act); finished = c.finished-reply.result })
    c.requires.1.1.1.1.1.1.1.1.1.0 ∙ ap (λ (o : Option ℕ). record
    { slot = c.args.present; waived = c.choose.new.said; ran = Some (c.in-Some.number, c.in-Ok.turn.act); finished = o })
    c.finished-reply.ensures)).fits

pub returns-in-Ok-clause-kept : goal.returns-in-Ok-clause-kept
returns-in-Ok-clause-kept g c = (turn_kept g.from.0 g.N.Nand.blocks g.from.1 (log_of c.note_step-is_worst.new.table c.log_step.new.events.notes)
    c.args.present c.args.caller c.choose.new.said c.choose.new.table c.note_step-is_worst.new.table c.in-Some.number c.choose.new.volume
    c.take_step-turn.new.volume c.in-Some-job.job c.in-Ok.turn _
    c.in-Some.ensures.turn c.in-Some-job.ensures c.in-Ok.ensures.did c.in-Ok.ensures.plan c.in-Ok.ensures.fails.failed c.note_step-is_worst.ensures.table
    (ap (λ (r : SlotReply). record r {
      waived = c.choose.new.said;
      ran = Some (c.in-Some.number, c.in-Ok.turn.act);
      finished =
          c.finished-reply.result;
    }) c.requires.1.1.1.1.1.1.1.1.1.0
    ∙ ap (λ (o : Option ℕ). record {
      slot = c.args.present;
      waived = c.choose.new.said;
      ran = Some (c.in-Some.number, c.in-Ok.turn.act);
      finished = o;
    }) c.finished-reply.ensures) (returns-in-Ok-clause-logged g c)).0

pub returns-in-Ok-clause-answered : goal.returns-in-Ok-clause-answered
returns-in-Ok-clause-answered g c =
    ap (λ (p : DiePlan). answer (over p g.from.0) g.from.1 Slot) (sym c.in-Some.ensures.plan)
    ∙ (turn_kept g.from.0 g.N.Nand.blocks g.from.1 (log_of c.note_step-is_worst.new.table c.log_step.new.events.notes) c.args.present c.args.caller
    c.choose.new.said c.choose.new.table c.note_step-is_worst.new.table c.in-Some.number c.choose.new.volume c.take_step-turn.new.volume
    c.in-Some-job.job c.in-Ok.turn _
    c.in-Some.ensures.turn c.in-Some-job.ensures c.in-Ok.ensures.did c.in-Ok.ensures.plan c.in-Ok.ensures.fails.failed c.note_step-is_worst.ensures.table
    (ap (λ (r : SlotReply). record r {
      waived = c.choose.new.said;
      ran = Some (c.in-Some.number, c.in-Ok.turn.act);
      finished =
          c.finished-reply.result;
    }) c.requires.1.1.1.1.1.1.1.1.1.0
    ∙ ap (λ (o : Option ℕ). record {
      slot = c.args.present;
      waived = c.choose.new.said;
      ran = Some (c.in-Some.number, c.in-Ok.turn.act);
      finished = o;
    }) c.finished-reply.ensures) (returns-in-Ok-clause-logged g c)).1

-- Room for the waivers

pub push_idle-requires-clause-waiver_room : goal.push_idle-requires-clause-waiver_room
push_idle-requires-clause-waiver_room g c =
    omega (
      arith,
      c.requires.1.1.1.1.1.1.1.0,
      c.in_default.ensures.closed,
      ap (λ (ws : List Waived). length ws) c.as_slice.ensures,
      ap
          (λ (r : SlotReply). length r.waived) c.requires.1.1.1.1.1.1.1.1.1.0,
    )

pub returns-in_default-clause-waiver_room : goal.returns-in_default-clause-waiver_room
returns-in_default-clause-waiver_room g c =
    omega (
      arith,
      c.requires.1.1.1.1.1.1.1.0,
      c.in_default.ensures.closed,
      ap (λ (r : Reserve). r.arrivals) c.in_default.ensures.reserve,
      c.push_idle.ensures.waiver_room,
      ap
          (λ (ws : List Waived). length ws) c.as_slice.ensures,
      ap (λ (r : SlotReply). length r.waived) c.requires.1.1.1.1.1.1.1.1.1.0,
    )

pub log_step-requires-clause-waiver_room : goal.log_step-requires-clause-waiver_room
log_step-requires-clause-waiver_room g c =
    omega (
      arith,
      c.requires.1.1.1.1.1.1.1.0,
      c.in-Some.ensures.closed,
      ap (λ (ws : List Waived). length ws) c.as_slice-in-Ok.ensures,
      ap
          (λ (r : SlotReply). length r.waived) c.requires.1.1.1.1.1.1.1.1.1.0,
    )

pub returns-in-Ok-clause-waiver_room : goal.returns-in-Ok-clause-waiver_room
returns-in-Ok-clause-waiver_room g c =
    omega (
      arith,
      c.requires.1.1.1.1.1.1.1.0,
      c.in-Some.ensures.closed,
      ap (λ (r : Reserve). r.arrivals) c.in-Some.ensures.reserve,
      ap (λ (t : Table). t.reserve.arrivals) c.note_step-is_worst.ensures.table,
      step_keeps_reserve c.choose.new.table c.in-Some.number c.in-Ok.turn (c.args.present + 1),
      c.log_step.ensures.waiver_room,
      ap (λ (ws : List Waived). length ws) c.as_slice-in-Ok.ensures,
      ap (λ (r : SlotReply). length r.waived) c.requires.1.1.1.1.1.1.1.1.1.0,
      ap (λ (t : Table). open_collections t.jobs) c.note_step-is_worst.ensures.table,
      turn_opens_nothing c.choose.new.table c.in-Some.number c.in-Ok.turn (c.args.present + 1),
    )

pub returns-in-Err-clause-waiver_room : goal.returns-in-Err-clause-waiver_room
returns-in-Err-clause-waiver_room g c =
    let taken_back : c.stop.new.self.jobs ≡ job_records (over c.choose.new.volume.accounts.plan g.from.0) g.from.1 = c.stop.ensures.as_before
    (job_records (over c.choose.new.volume.accounts.plan g.from.0) g.from.1)
    (subst (λ (ws : List Waived). WerePending (job_records (over c.choose.new.volume.accounts.plan g.from.0) g.from.1) ws) (sym c.as_slice-in-Err.ensures)
    c.in-Some.ensures.turn.table.were_pending)
    (c.in-Some.ensures.turn.table.were ∙ ap (λ (ws : List Waived). jobs_after_waivers (job_records (over c.choose.new.volume.accounts.plan g.from.0) g.from.1) ws)
    (sym c.as_slice-in-Err.ensures)) in
    let same : c.stop.new.self.jobs ≡ c.args.table.now.jobs = taken_back
    ∙ (ap (λ (p : DiePlan). job_records (over p g.from.0) g.from.1) c.in-Some.ensures.plan ∙ sym c.requires.1.1.1.1.1.1.1.1.0.jobs_are) in
    omega (
      arith,
      c.requires.1.1.1.1.1.1.1.0,
      ap (λ (js : List JobRecord). open_collections js) same,
      ap (λ (r : Reserve). r.arrivals) c.in-Some.ensures.reserve,
      ap (λ (t : Table). t.reserve.arrivals) c.stop.ensures.stopped,
    )

-- What lasts

pub returns-in-Ok-clause-lasting : goal.returns-in-Ok-clause-lasting
returns-in-Ok-clause-lasting g c =
    ap (λ (t : Table). t.lasting) c.note_step-is_worst.ensures.table
    ∙ (step_keeps_lasting c.choose.new.table c.in-Some.number c.in-Ok.turn (c.args.present + 1) ∙ c.in-Some.ensures.lasting)

-- The mark

pub returns-in_default-clause-marked : goal.returns-in_default-clause-marked
returns-in_default-clause-marked g c =
    rw c.push_idle.ensures.marked (marks_chosen g.from.0 c.args.volume.now.accounts.plan c.choose.new.volume.accounts.plan g.from.1
    c.args.table.now.jobs c.choose.new.table.jobs c.choose.new.said c.args.events.now.marked c.in_default.ensures.plan
    c.requires.1.1.1.1.1.1.1.1.0.jobs_are c.in_default.ensures.idle.0.table.were c.in_default.ensures.idle.0.table.were_pending
    c.requires.1.1.1.1.1.1.1.1.1.1)

pub log_step-requires-clause-alone : goal.log_step-requires-clause-alone
log_step-requires-clause-alone g c =
    λ is. rw c.deed_of-deed.ensures (last_alone c.in-Some.number c.work_of-place.result c.in-Ok.turn.last c.in-Ok.turn.act
    (c.note_step-is_worst.ensures.worst.0 is).0)

pub returns-in-Ok-clause-marked : goal.returns-in-Ok-clause-marked
returns-in-Ok-clause-marked g c =
    let slots : length (carried_in c.log_step.new.events.notes) ≡ c.args.present + 1 =
    slots_reported c.note_step-is_worst.new.table.jobs c.log_step.new.events.notes ∙ sym (returns-in-Ok-clause-kept g c).now_is in
    rw (c.log_step.ensures.marked, c.note_step-is_worst.ensures.table) (marks_step c.choose.new.table c.in-Some.number c.in-Ok.turn
    (c.args.present + 1) c.args.events.now.marked (length (carried_in c.log_step.new.events.notes)) c.note_step-is_worst.result
    c.in-Some.ensures.turn.head slots
    (rw c.note_step-is_worst.ensures.table at c.note_step-is_worst.ensures.worst)
    (marks_chosen g.from.0 c.args.volume.now.accounts.plan c.choose.new.volume.accounts.plan g.from.1
    c.args.table.now.jobs c.choose.new.table.jobs c.choose.new.said c.args.events.now.marked c.in-Some.ensures.plan
    c.requires.1.1.1.1.1.1.1.1.0.jobs_are c.in-Some.ensures.turn.table.were c.in-Some.ensures.turn.table.were_pending
    c.requires.1.1.1.1.1.1.1.1.1.1))

pub returns-in-Err-clause-marked : goal.returns-in-Err-clause-marked
returns-in-Err-clause-marked g c =
    let taken_back : c.stop.new.self.jobs ≡ job_records (over c.choose.new.volume.accounts.plan g.from.0) g.from.1 = c.stop.ensures.as_before
    (job_records (over c.choose.new.volume.accounts.plan g.from.0) g.from.1)
    (subst (λ (ws : List Waived). WerePending (job_records (over c.choose.new.volume.accounts.plan g.from.0) g.from.1) ws) (sym c.as_slice-in-Err.ensures)
    c.in-Some.ensures.turn.table.were_pending)
    (c.in-Some.ensures.turn.table.were ∙ ap (λ (ws : List Waived). jobs_after_waivers (job_records (over c.choose.new.volume.accounts.plan g.from.0) g.from.1) ws)
    (sym c.as_slice-in-Err.ensures)) in
    let same : c.stop.new.self.jobs ≡ c.args.table.now.jobs = taken_back
    ∙ (ap (λ (p : DiePlan). job_records (over p g.from.0) g.from.1) c.in-Some.ensures.plan ∙ sym c.requires.1.1.1.1.1.1.1.1.0.jobs_are) in
    rw same c.requires.1.1.1.1.1.1.1.1.1.1

-- The call of the device

pub returns-in_default-clause-calls : goal.returns-in_default-clause-calls
returns-in_default-clause-calls g c = idle_makes g.from.0 g.N.Nand.blocks g.N.Nand.ends g.N.Nand.failures g.from.1 c.args.present
    c.choose.new.said c.choose.new.table c.args.volume.now c.choose.new.volume _ c.in_default.ensures.plan c.in_default.ensures.device
    c.in_default.ensures.idle.0 c.in_default.ensures.idle.1

pub returns-in-Ok-clause-calls : goal.returns-in-Ok-clause-calls
returns-in-Ok-clause-calls g c = turn_makes g.from.0 g.N.Nand.blocks g.N.Nand.ends g.N.Nand.failures g.from.1 c.args.present
    c.choose.new.said c.choose.new.table c.in-Some.number c.args.volume.now c.choose.new.volume c.take_step-turn.new.volume c.in-Some-job.job _
    c.in-Some.ensures.plan c.in-Some.ensures.device c.in-Some.ensures.turn c.in-Some-job.ensures c.in-Ok.ensures.makes
    c.in-Ok.ensures.fails.by_fault.well

pub returns-in-Err-clause-calls : goal.returns-in-Err-clause-calls
returns-in-Err-clause-calls g c = turn_fails g.from.0 g.N.Nand.blocks g.N.Nand.ends g.N.Nand.failures g.from.1 c.args.present
    c.choose.new.said c.choose.new.table c.in-Some.number c.args.volume.now c.choose.new.volume c.take_step-turn.new.volume c.in-Some-job.job
    c.in-Err.refusal
    c.in-Some.ensures.plan c.in-Some.ensures.device c.in-Some.ensures.turn c.in-Some-job.ensures c.in-Err.ensures.makes
