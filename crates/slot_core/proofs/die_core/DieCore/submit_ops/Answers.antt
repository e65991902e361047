use Rattle.std.proofs.Common.{◌≡◌, List, length, subst, true≢false, refl, sym, ◌∙◌, ap, None, arith, rules}
use Rattle.std.proofs.lemmas.Grind.{common_steps}
use Rattle.slot_types.specs.declared.events.Event.TheVariants.{Submit}
use Rattle.slot_types.specs.declared.events.Op.{Op}
use Rattle.slot_types.specs.Operations.{writes}
use Rattle.slot_core.specs.Calls.{IsCovered}
use Rattle.die_log.specs.Model.Answers.{refusal_of}
use Rattle.die_log.proofs.Legality.{refused_answer}
use Rattle.slot_core.specs.Core.{Core}
use Rattle.slot_core.proofs.Calling.{stopped_refused, log_refused, memory_refused, entered}
use Rattle.slot_core.proofs.Keeping.{submit_kept, submit_accepts, submit_taken, tokens_suffice, admit_made}
use Rattle.job_table.specs.Table.{Table}
use Rattle.slot_core.specs.TableLog.{log_of}
use Rattle.slot_core.specs.ReservedSlots.{open_collections}
use Rattle.slot_core.proofs.Reserving.{open_job, job_lasts}
use Rattle.slot_core.proofs.Fitting.{accepted_few}
use Rattle.slot_core.proofs.Telling.{submit_reports, few_reported}
use Rattle.job_table.specs.Jobs.{new_job}
use Rattle.slot_core.proofs.Marks.{marks_push}
use Rattle.slot_core.proofs.die_core.DieCore.submit_ops.Goals as goal
use Rattle.die_log.specs.Model.Start.{over}

pub returns-then-failed : goal.returns-then-failed
returns-then-failed g c =
    stopped_refused g.N.Nand.ends g.N.Nand.failures g.N.Nand.never_fails c.args.caller
    (Submit c.args.task c.args.release c.args.due c.args.ops.now) c.args.self.now _
    (rw (← c.self.view_is) (sym c.failed.ensures ∙ c.if-failed.true)) (search rules)

pub returns-in-Err : goal.returns-in-Err
returns-in-Err g c =
    log_refused g.N.Nand.ends g.N.Nand.failures g.N.Nand.never_fails c.args.caller
    (Submit c.args.task c.args.release c.args.due c.args.ops.now) c.args.self.now _ c.in-Err.refusal
    (rw (← c.self.view_is) (sym c.failed.ensures ∙ c.if-failed.false))
    (refused_answer _ _ _ _ (sym c.in-Err.ensures.refusal)) (search rules)

pub returns-in-Err-enter : goal.returns-in-Err-enter
returns-in-Err-enter g c =
    memory_refused g.N.Nand.ends g.N.Nand.failures g.N.Nand.never_fails c.args.caller
    (Submit c.args.task c.args.release c.args.due c.args.ops.now) c.args.self.now _ c.in-Err-enter.refusal
    (rw (← c.self.view_is) (sym c.failed.ensures ∙ c.if-failed.false))
    (submit_accepts _ _ _ _ _ _ (sym c.in-Ok.ensures.refusal)) (λ covered.
    let there = subst (λ (d : Core g.row.N.Denot). IsCovered (Submit c.args.task c.args.release c.args.due c.args.ops.now) d.reserved)
    (sym c.self.view_is) covered in
    let well = c.in-Err-enter.ensures.succeeds (record {
      arrival = there.0;
      operations = omega (arith, there.1, ap (λ (ops : List Op). length ops) c.in-Ok.ensures.ops);
    }) in absurd cc) c.in-Err-enter.ensures.refused (search rules)

pub invariant_of-self-in-Ok-enter : goal.invariant_of-self-in-Ok-enter
invariant_of-self-in-Ok-enter g c =
    let f = c.self.inside in
    let none : refusal_of (over f.volume.accounts.plan c.self.inside.start) (log_of f.table f.events.notes)
    (Submit c.args.task c.args.release c.args.due c.args.ops.now) ≡ None =
    ap (λ (d : Core g.row.N.Denot). refusal_of d.start d.log (Submit c.args.task c.args.release c.args.due c.args.ops.now)) c.self.view_is
    ∙ (sym c.in-Ok.ensures.refusal) in
    let alive = sym c.failed.ensures ∙ c.if-failed.false in
    let table = rw c.in-Ok.ensures.ops at c.in-Ok-enter.ensures.table in
    let made = admit_made f.volume c.admit.new.self c.args.task _ c.args.ops.now c.admit.result (c.writes.ensures ∙ ap writes c.in-Ok.ensures.ops)
    (tokens_suffice (over f.volume.accounts.plan c.self.inside.start) (log_of f.table f.events.notes) c.args.task c.args.release c.args.due c.args.ops.now
    f.volume.accounts (c.self.invariant.0.kept.flash alive).accounts_are none) c.admit.ensures.ok (c.admit.ensures.accepted alive) in
    let says = submit_reports f.table c.enter.new.table f.events.notes c.enter.new.events.notes c.args.caller c.in-Ok-enter.number
    c.args.task c.args.release c.args.due c.args.ops.now table c.in-Ok-enter.ensures.number c.in-Ok-enter.ensures.logged
    c.self.invariant.0.fits in (
      record {
        kept = submit_kept c.self.inside.start g.N.Nand.blocks (log_of f.table f.events.notes) (log_of c.enter.new.table c.enter.new.events.notes)
            f.present c.args.caller c.in-Ok-enter.number c.args.task c.args.release c.args.due c.args.ops.now f.table c.enter.new.table
            f.volume c.admit.new.self
            c.self.invariant.0.kept alive none c.in-Ok-enter.ensures.number table made says.0;
        fits = says.1;
      },
      record {
        entries = c.in-Ok-enter.ensures.reserved;
        waivers = omega (
          arith,
          c.self.invariant.1.waivers,
          c.in-Ok-enter.ensures.waiver_room_stays,
          ap (λ (t : Table). open_collections t.jobs) table,
          ap (λ (t : Table). t.reserve.arrivals) table,
          open_job f.table.jobs c.args.task c.args.release c.args.due c.args.ops.now,
        );
      },
      rw (table, c.in-Ok-enter.ensures.marked) (marks_push f.table.jobs
          (new_job c.args.task c.args.release c.args.due c.args.ops.now) f.events.marked refl c.self.invariant.2),
      job_lasts f.table c.enter.new.table _ f.reserved f.lasting f.events.memory c.enter.new.events.memory f.events.waiver_memory
          c.enter.new.events.waiver_memory table c.in-Ok-enter.ensures.memory c.in-Ok-enter.ensures.waiver_memory c.self.invariant.3,
    )

pub enter-requires-clause-few_ops : goal.enter-requires-clause-few_ops
enter-requires-clause-few_ops g c =
    let f = c.self.inside in
    let none : refusal_of (over f.volume.accounts.plan c.self.inside.start) (log_of f.table f.events.notes)
    (Submit c.args.task c.args.release c.args.due c.args.ops.now) ≡ None =
    ap (λ (d : Core g.row.N.Denot). refusal_of d.start d.log (Submit c.args.task c.args.release c.args.due c.args.ops.now)) c.self.view_is
    ∙ (sym c.in-Ok.ensures.refusal) in
    rw c.in-Ok.ensures.ops
    (accepted_few (over f.volume.accounts.plan c.self.inside.start) (log_of f.table f.events.notes) c.args.task c.args.release c.args.due
    c.args.ops.now none)

pub enter-requires-clause-collection : goal.enter-requires-clause-collection
enter-requires-clause-collection g c e = absurd (true≢false (sym e))

pub enter-requires-clause-few_events : goal.enter-requires-clause-few_events
enter-requires-clause-few_events g c = few_reported (over c.self.inside.volume.accounts.plan c.self.inside.start) c.self.inside.table.jobs c.self.inside.events.notes
    c.self.invariant.0.kept.exact c.self.invariant.0.fits

pub returns-in-Ok-enter : goal.returns-in-Ok-enter
returns-in-Ok-enter g c =
    let f = c.self.inside in
    let none : refusal_of (over f.volume.accounts.plan c.self.inside.start) (log_of f.table f.events.notes)
    (Submit c.args.task c.args.release c.args.due c.args.ops.now) ≡ None =
    ap (λ (d : Core g.row.N.Denot). refusal_of d.start d.log (Submit c.args.task c.args.release c.args.due c.args.ops.now)) c.self.view_is
    ∙ (sym c.in-Ok.ensures.refusal) in
    let alive = sym c.failed.ensures ∙ c.if-failed.false in
    let table = rw c.in-Ok.ensures.ops at c.in-Ok-enter.ensures.table in
    let made = admit_made f.volume c.admit.new.self c.args.task _ c.args.ops.now c.admit.result (c.writes.ensures ∙ ap writes c.in-Ok.ensures.ops)
    (tokens_suffice (over f.volume.accounts.plan c.self.inside.start) (log_of f.table f.events.notes) c.args.task c.args.release c.args.due c.args.ops.now
    f.volume.accounts (c.self.invariant.0.kept.flash alive).accounts_are none) c.admit.ensures.ok (c.admit.ensures.accepted alive) in
    let says = submit_reports f.table c.enter.new.table f.events.notes c.enter.new.events.notes c.args.caller c.in-Ok-enter.number
    c.args.task c.args.release c.args.due c.args.ops.now table c.in-Ok-enter.ensures.number c.in-Ok-enter.ensures.logged
    c.self.invariant.0.fits in
    entered g.N.Nand.ends g.N.Nand.failures g.N.Nand.never_fails c.args.caller
    (Submit c.args.task c.args.release c.args.due c.args.ops.now) c.args.self.now _ c.in-Ok-enter.number tt (rw (← c.self.view_is) alive) (record {
      answered = rw (← c.self.view_is)
          (submit_taken _ _ f.table _ _ _ _ _ none c.self.invariant.0.kept.jobs_are c.in-Ok-enter.ensures.number);
      logged = rw (says.0, made, ap (λ (t : Table). t.reserve) table, ap (λ (t : Table). t.lasting) table, ← c.self.view_is) refl;
    })

pub invariant_of-self : goal.invariant_of-self
invariant_of-self g c = grind (arith, common_steps)

pub enter-requires-clause-running : goal.enter-requires-clause-running
enter-requires-clause-running g c = grind (arith, common_steps)

pub enter-requires-clause-few : goal.enter-requires-clause-few
enter-requires-clause-few g c = grind (arith, common_steps)

pub enter-requires-clause-reserved : goal.enter-requires-clause-reserved
enter-requires-clause-reserved g c = grind (arith, common_steps)

pub checked_ops-requires : goal.checked_ops-requires
checked_ops-requires g c = grind (arith, common_steps)

pub overflow_cast-writes : goal.overflow_cast-writes
overflow_cast-writes g c = grind (arith, common_steps)
