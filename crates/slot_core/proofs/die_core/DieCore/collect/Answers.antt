use Rattle.std.proofs.Common.{◌≡◌, subst, refl, None, false, length, arith, sym, ◌∙◌, ap, rules}
use Rattle.std.specs.Prelude.{◌<◌, IfOk, IsOk}
use Rattle.slot_types.specs.declared.events.Event.TheVariants.{Collect}
use Rattle.slot_types.specs.declared.replies.Reply.TheVariants.{Taken}
use Rattle.die_log.specs.Model.Answers.{answer, refusal_of}
use Rattle.die_log.proofs.Legality.{refused_answer}
use Rattle.slot_core.specs.Core.{Core, with_entry}
use Rattle.slot_core.specs.Calls.{IsCovered}
use Rattle.slot_core.proofs.Calling.{err_uncovered, stopped_refused, log_refused, memory_refused, entered, of_result}
use Rattle.slot_core.proofs.Keeping.{collecting_is, may_collect, collect_answered, collect_accepts, if_ok_both, if_err_both}
use Rattle.slot_core.specs.TableLog.{log_of}
use Rattle.job_table.specs.Jobs.{new_collection}
use Rattle.job_table.specs.Table.{Table, with_job}
use Rattle.slot_core.proofs.Reserving.{collect_room, collect_uses, collect_lasts}
use Rattle.slot_core.proofs.Telling.{collect_enters, collect_logged, few_reported}
use Rattle.slot_core.proofs.Marks.{marks_collect}
use Rattle.slot_core.proofs.die_core.DieCore.collect.Goals as goal
use Rattle.die_log.specs.Model.Start.{over}

pub returns-then-failed : goal.returns-then-failed
returns-then-failed g c =
    stopped_refused g.N.Nand.ends g.N.Nand.failures g.N.Nand.never_fails c.args.caller
    (Collect c.args.task c.args.release c.args.due) c.args.self.now _
    (rw (← c.self.view_is) (sym c.failed.ensures ∙ c.if-failed.true)) (search rules)

pub returns-in-Some : goal.returns-in-Some
returns-in-Some g c =
    log_refused g.N.Nand.ends g.N.Nand.failures g.N.Nand.never_fails c.args.caller (Collect c.args.task c.args.release c.args.due)
    c.args.self.now _ c.in-Some.refusal (rw (← c.self.view_is) (sym c.failed.ensures ∙ c.if-failed.false))
    (refused_answer _ _ _ _ (sym c.collect_refusal.ensures ∙ c.in-Some.is)) (search rules)

pub enter-requires-clause-collection : goal.enter-requires-clause-collection
enter-requires-clause-collection g c _ =
    let none : refusal_of (over c.self.inside.volume.accounts.plan c.self.inside.start) (log_of c.self.inside.table c.self.inside.events.notes)
    (Collect c.args.task c.args.release c.args.due) ≡ None =
    ap (λ (d : Core g.row.N.Denot). refusal_of d.start d.log (Collect c.args.task c.args.release c.args.due)) c.self.view_is
    ∙ (sym c.collect_refusal.ensures ∙ c.in-None.is) in
    let may = may_collect (over c.self.inside.volume.accounts.plan c.self.inside.start)
    (log_of c.self.inside.table c.self.inside.events.notes) c.args.task c.args.release c.args.due none in (
      c.none.ensures,
      omega (arith, may.task_in, c.self.invariant.0.kept.tasks_are),
      collecting_is (over c.self.inside.volume.accounts.plan c.self.inside.start) (log_of c.self.inside.table c.self.inside.events.notes)
          c.self.inside.table.jobs c.args.task c.self.invariant.0.kept.jobs_are ∙ may.single,
    )

pub enter-requires-clause-few_ops : goal.enter-requires-clause-few_ops
enter-requires-clause-few_ops g c = omega (arith, ap length c.none.ensures)

pub invariant_of-self : goal.invariant_of-self
invariant_of-self g c =
    let none : refusal_of (over c.self.inside.volume.accounts.plan c.self.inside.start) (log_of c.self.inside.table c.self.inside.events.notes)
    (Collect c.args.task c.args.release c.args.due) ≡ None =
    ap (λ (d : Core g.row.N.Denot). refusal_of d.start d.log (Collect c.args.task c.args.release c.args.due)) c.self.view_is
    ∙ (sym c.collect_refusal.ensures ∙ c.in-None.is) in
    let entered = collect_enters c.self.inside.start g.N.Nand.blocks c.self.inside.events.notes c.enter.new.events.notes c.self.inside.present
    c.args.caller c.args.task c.args.release c.args.due c.self.inside.table c.enter.new.table
    c.self.inside.volume c.enter.result c.self.invariant.0 (sym c.failed.ensures ∙ c.if-failed.false) none
    (rw c.none.ensures at c.enter.ensures.table) c.enter.ensures.number c.enter.ensures.logged
    c.enter.ensures.table_stays c.enter.ensures.log_stays in (
      entered,
      record {
        entries = c.enter.ensures.reserved;
        waivers = collect_room c.enter.result (over c.self.inside.volume.accounts.plan c.self.inside.start)
            (log_of c.enter.new.table c.enter.new.events.notes) c.self.inside.table c.enter.new.table c.args.task c.args.release c.args.due
            c.self.inside.events.waiver_room c.enter.new.events.waiver_room entered.kept.bound entered.kept.exact
            entered.kept.jobs_are c.self.invariant.0.kept.tasks_are
            c.enter.ensures.waiver_room (rw c.none.ensures at c.enter.ensures.table) c.enter.ensures.table_stays c.self.invariant.1.waivers
            c.enter.ensures.waiver_room_stays;
      },
      marks_collect c.enter.result c.self.inside.table c.enter.new.table c.args.task c.args.release c.args.due
          c.self.inside.events.marked c.enter.new.events.marked (rw c.none.ensures at c.enter.ensures.table)
          c.enter.ensures.table_stays c.enter.ensures.marked c.self.invariant.2,
      collect_lasts c.enter.result c.self.inside.table c.enter.new.table _ c.self.inside.reserved c.self.inside.lasting
          c.self.inside.events.memory c.enter.new.events.memory c.self.inside.events.waiver_memory c.enter.new.events.waiver_memory
          (rw c.none.ensures at c.enter.ensures.table) c.enter.ensures.table_stays c.enter.ensures.memory c.enter.ensures.waiver_memory
          c.self.invariant.3,
    )

pub enter-requires-clause-few_events : goal.enter-requires-clause-few_events
enter-requires-clause-few_events g c = few_reported (over c.self.inside.volume.accounts.plan c.self.inside.start) c.self.inside.table.jobs
    c.self.inside.events.notes c.self.invariant.0.kept.exact c.self.invariant.0.fits

pub returns : goal.returns
returns g c =
    let runs : c.args.self.now.stopped ≡ false = rw (← c.self.view_is) (sym c.failed.ensures ∙ c.if-failed.false) in
    let none : refusal_of c.args.self.now.start c.args.self.now.log (Collect c.args.task c.args.release c.args.due) ≡ None =
    sym c.collect_refusal.ensures ∙ c.in-None.is in
    let answered : IfOk c.enter.result (λ number. answer c.args.self.now.start c.args.self.now.log
    (Collect c.args.task c.args.release c.args.due) ≡ Taken number) =
    rw (← c.self.view_is) (collect_answered _ _ c.self.inside.table c.args.task c.args.release c.args.due c.enter.result
    (rw (← c.self.view_is) at none) c.self.invariant.0.kept.jobs_are c.enter.ensures.number) in
    let covers : IsCovered (Collect c.args.task c.args.release c.args.due) c.args.self.now.reserved → IsOk c.enter.result = λ some.
    c.enter.ensures.succeeds (record {
      arrival = subst (λ (d : Core g.row.N.Denot). 0 < d.reserved.arrivals) (sym c.self.view_is) some;
      operations = omega (arith, ap length c.none.ensures);
    }) in
    let stays = if_err_both c.enter.result (λ _. c.enter.new.table ≡ c.self.inside.table)
    (λ _. c.enter.new.events.notes ≡ c.self.inside.events.notes)
    (λ _. (c.enter.new.table ≡ c.self.inside.table) × (c.enter.new.events.notes ≡ c.self.inside.events.notes))
    c.enter.ensures.table_stays c.enter.ensures.log_stays (λ refusal table log. (table, log)) in
    of_result g.N.Nand.ends g.N.Nand.failures g.N.Nand.never_fails c.args.caller (Collect c.args.task c.args.release c.args.due)
    c.args.self.now _ c.enter.result
    (if_ok_both c.enter.result _ _ _ answered
    (if_ok_both c.enter.result _ (λ _. c.enter.new.table
    ≡ with_job c.self.inside.table (new_collection c.args.task c.args.release c.args.due))
    (λ number. (log_of c.enter.new.table c.enter.new.events.notes
    ≡ with_entry c.args.caller (Collect c.args.task c.args.release c.args.due) (Taken number)
    (log_of c.self.inside.table c.self.inside.events.notes))
    × (c.enter.new.table ≡ with_job c.self.inside.table (new_collection c.args.task c.args.release c.args.due)))
    (collect_logged c.self.inside.table c.enter.new.table c.self.inside.events.notes c.enter.new.events.notes
    c.args.caller c.args.task c.args.release c.args.due c.enter.result
    c.self.invariant.0.fits (rw c.none.ensures at c.enter.ensures.table) c.enter.ensures.number c.enter.ensures.logged)
    (rw c.none.ensures at c.enter.ensures.table) (λ number says table. (says, table)))
    (λ number is both. entered g.N.Nand.ends g.N.Nand.failures g.N.Nand.never_fails c.args.caller
    (Collect c.args.task c.args.release c.args.due) c.args.self.now _ number tt runs
    (record {
      answered = is;
      logged = rw (
        both.0,
        collect_uses c.self.inside.table c.enter.new.table c.args.task c.args.release c.args.due both.1,
        ap (λ (t : Table). t.lasting) both.1,
        ← c.self.view_is,
      ) refl;
    })))
    (if_err_both c.enter.result _ _ _ c.enter.ensures.refused
    (if_err_both c.enter.result _ _ (λ _. ((c.enter.new.table ≡ c.self.inside.table) × (c.enter.new.events.notes ≡ c.self.inside.events.notes))
    × ¬ IsCovered (Collect c.args.task c.args.release c.args.due) c.args.self.now.reserved)
    stays (err_uncovered c.enter.result covers) (λ refusal same uncovered. (same, uncovered)))
    (λ refusal is both. memory_refused g.N.Nand.ends g.N.Nand.failures g.N.Nand.never_fails c.args.caller
    (Collect c.args.task c.args.release c.args.due) c.args.self.now _ refusal runs (collect_accepts _ _ _ _ _ none) both.1 is
    (rw (both.0.0, both.0.1, ← c.self.view_is) refl)))
