use Rattle.std.proofs.Common.{◌+◌, ◌∷◌, [], ap, sym, ◌∙◌, length, not, arith, length-append}
use Rattle.event_log.specs.Notes.{Events}
use Rattle.event_log.specs.SoundLog.{notes_in}
use Rattle.event_log.specs.NoteRecords.{caller_runs, new_records}
use Rattle.event_log.proofs.Pushing.{notes_push, records_push, caller_is, goes_on_same, length_of, before_push, in_order-push, is_none_is, same_some}
use Rattle.event_log.proofs.Marking.{goes_on_unmarked, some_caller, slots-push, still_marked}
use Rattle.event_log.proofs.event_log.EventLog.push_reserved.Goals as goal

pub push_reserved-requires-clause-few : goal.push_reserved-requires-clause-few
push_reserved-requires-clause-few c =
    omega (
      arith,
      c.requires.few,
      ap (λ (e : Events). length e.notes) c.self.view_is,
      length_of c.self.inside.deeds.items
          c.self.inside.callers.items c.self.inside.waivers.items c.self.invariant.0.callers_are,
    )

pub push_reserved-requires-clause-like : goal.push_reserved-requires-clause-like
push_reserved-requires-clause-like c =
    λ on. goes_on_same c.self.inside.deeds.items c.self.inside.callers.items c.self.inside.waivers.items
    (record { caller = c.args.caller; deed = c.args.deed; waived = c.args.waived.now }) c.self.invariant.0.callers_are
    (rw (← c.self.view_is) at (sym c.goes_on-goes_on.ensures ∙ on))

pub push_reserved-requires-2-clause-few : goal.push_reserved-requires-2-clause-few
push_reserved-requires-2-clause-few c =
    omega (
      arith,
      c.requires.few,
      c.self.invariant.0.callers_are,
      ap (λ (e : Events). length e.notes) c.self.view_is,
      length_of
          c.self.inside.deeds.items c.self.inside.callers.items c.self.inside.waivers.items c.self.invariant.0.callers_are,
    )

pub push_reserved-requires-2-clause-like : goal.push_reserved-requires-2-clause-like
push_reserved-requires-2-clause-like c = λ same. same_some _ c.args.caller (sym c.is_last_caller-same_caller.ensures ∙ same)

pub push_reserved-requires-clause-unmarked : goal.push_reserved-requires-clause-unmarked
push_reserved-requires-clause-unmarked c =
    λ on. goes_on_unmarked c.self.inside.deeds.items c.self.inside.callers.items c.self.inside.waivers.items _ c.self.inside.deeds.marked
    c.self.inside.callers.marked c.self.invariant.0.callers_are c.self.invariant.2
    (rw (← c.self.view_is) at (sym c.goes_on-goes_on.ensures ∙ on))

pub push_reserved-requires-2-clause-unmarked : goal.push_reserved-requires-2-clause-unmarked
push_reserved-requires-2-clause-unmarked c =
    λ same. some_caller c.self.inside.callers.items c.args.caller c.self.inside.callers.marked c.self.invariant.2.no_callers
    (same_some _ c.args.caller (sym c.is_last_caller-same_caller.ensures ∙ same))

pub overflow_add-self : goal.overflow_add-self
overflow_add-self c =
    omega (
      arith,
      c.requires.few,
      c.self.invariant.0.len_is,
      ap (λ (e : Events). length e.notes) c.self.view_is,
      length_of
          c.self.inside.deeds.items c.self.inside.callers.items c.self.inside.waivers.items c.self.invariant.0.callers_are,
    )

pub invariant_of-self : goal.invariant_of-self
invariant_of-self c =
    let events = notes_push c.self.inside.deeds.items c.self.inside.callers.items c.self.inside.len c.self.inside.waivers.items
    c.args.caller c.args.deed c.args.waived.now c.self.invariant.0.len_is c.self.invariant.0.before in (
      record {
        len_is = rw (c.push_reserved.ensures.items) (omega (
          arith,
          c.self.invariant.0.len_is,
          length-append c.self.inside.deeds.items
              (c.args.deed ∷ []),
        ));
        few = omega (
          arith,
          c.requires.few,
          c.self.invariant.0.len_is,
          ap (λ (e : Events). length e.notes) c.self.view_is,
          length_of c.self.inside.deeds.items
              c.self.inside.callers.items c.self.inside.waivers.items c.self.invariant.0.callers_are,
        );
        callers_are = rw (c.push_reserved.ensures.items, c.push_reserved-2.ensures.items)
            (omega (
              arith,
              length-append c.self.inside.deeds.items (c.args.deed ∷ []),
              length-append c.self.inside.callers.items
                  (c.args.caller ∷ []),
              c.self.invariant.0.callers_are,
            ));
        before = rw c.note_waivers.ensures.noted (before_push c.self.inside.len c.self.inside.waivers.items c.args.waived.now
            c.self.invariant.0.before);
        ordered = rw c.note_waivers.ensures.noted (in_order-push c.self.inside.len c.self.inside.waivers.items c.args.waived.now
            c.self.invariant.0.before c.self.invariant.0.ordered);
        kept_is = rw (
          c.push_reserved.ensures.items,
          c.push_reserved-2.ensures.items,
          c.note_waivers.ensures.noted,
          events,
          c.push_reserved.ensures.kept,
          c.goes_on-goes_on.ensures,
          c.self.invariant.0.kept_is,
          ← c.self.view_is,
        )
            (sym (records_push (record { caller = c.args.caller; deed = c.args.deed; waived = c.args.waived.now })
            (notes_in c.self.inside.deeds.items c.self.inside.callers.items c.self.inside.waivers.items)));
        callers_kept_is = rw (
          c.push_reserved.ensures.items,
          c.push_reserved-2.ensures.items,
          c.note_waivers.ensures.noted,
          events,
          c.push_reserved-2.ensures.kept,
          c.is_last_caller-same_caller.ensures,
          c.self.invariant.0.callers_kept_is,
        )
            (ap (λ b. new_records b + caller_runs (notes_in c.self.inside.deeds.items c.self.inside.callers.items
            c.self.inside.waivers.items))
            (caller_is c.self.inside.deeds.items c.self.inside.callers.items c.self.inside.waivers.items
            (record { caller = c.args.caller; deed = c.args.deed; waived = c.args.waived.now }) c.self.invariant.0.callers_are));
        waives_is = rw (
          c.push_reserved.ensures.items,
          c.push_reserved-2.ensures.items,
          c.note_waivers.ensures.noted,
          events,
          c.is_empty.ensures,
        ) (ap not (is_none_is c.args.waived.now));
      },
      record {
        deeds = omega (arith, c.self.invariant.1.deeds, c.push_reserved.ensures.room);
        callers = omega (arith, c.self.invariant.1.callers, c.push_reserved-2.ensures.room);
        waivers_fit = omega (arith, c.self.invariant.1.waivers_fit, c.note_waivers.ensures.len, c.note_waivers.ensures.capacity);
      },
      rw (c.push_reserved.ensures.items, c.push_reserved.ensures.marked, c.push_reserved-2.ensures.marked)
          (still_marked c.self.inside.deeds.items c.self.inside.deeds.marked c.self.inside.callers.marked c.args.deed c.self.invariant.2),
      record {
        deeds = omega (arith, c.self.invariant.3.deeds, c.push_reserved.ensures.memory);
        callers = omega (arith, c.self.invariant.3.callers, c.push_reserved-2.ensures.memory);
        waivers = omega (arith, c.self.invariant.3.waivers, c.note_waivers.ensures.capacity);
        lasts = omega (arith, c.self.invariant.3.lasts);
        waivers_last = omega (arith, c.self.invariant.3.waivers_last);
      },
    )

pub returns-clause-marked : goal.returns-clause-marked
returns-clause-marked c =
    rw (c.push_reserved.ensures.items, c.push_reserved.ensures.marked, ← c.self.view_is)
    (slots-push c.self.inside.deeds.marked c.self.inside.deeds.items c.args.deed c.self.invariant.2.within)

pub returns-clause-events : goal.returns-clause-events
returns-clause-events c =
    rw (c.push_reserved.ensures.items, c.push_reserved-2.ensures.items, c.note_waivers.ensures.noted, ← c.self.view_is)
    (notes_push c.self.inside.deeds.items c.self.inside.callers.items c.self.inside.len c.self.inside.waivers.items c.args.caller
    c.args.deed c.args.waived.now c.self.invariant.0.len_is c.self.invariant.0.before)
