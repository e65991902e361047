use Rattle.std.proofs.Common.{◌+◌, ◌∷◌, [], ap, sym, refl, ◌∙◌, length, arith, length-append}
use Rattle.event_log.specs.declared.deeds.Deed.TheVariants.{Idle}
use Rattle.event_log.specs.Notes.{Events}
use Rattle.event_log.specs.SoundLog.{notes_in}
use Rattle.event_log.proofs.Pushing.{idle_goes_on, idle_push, records_push, same_caller, length_of, before_later}
use Rattle.event_log.proofs.Marking.{goes_on_unmarked, some_caller, slots-push, still_marked}
use Rattle.event_log.proofs.event_log.EventLog.push_idle.Goals as goal

pub push_reserved-requires-clause-few : goal.push_reserved-requires-clause-few
push_reserved-requires-clause-few c =
    omega (
      arith,
      c.requires.few,
      ap (λ (e : Events). length e.notes) c.self.view_is,
      length_of c.self.inside.deeds.items
          c.self.inside.callers.items c.self.inside.waivers.items c.self.invariant.0.callers_are,
    )

pub push_reserved-requires-clause-like : goal.push_reserved-requires-clause-like
push_reserved-requires-clause-like c =
    λ _. (idle_goes_on c.self.inside.deeds.items c.self.inside.callers.items c.self.inside.waivers.items c.args.caller c.args.waived.now
    c.self.invariant.0.callers_are (rw (← c.self.view_is) at (sym c.goes_on.ensures ∙ c.if-goes_on.true))).deed

pub push_reserved-requires-then-goes_on-clause-few : goal.push_reserved-requires-then-goes_on-clause-few
push_reserved-requires-then-goes_on-clause-few c =
    omega (
      arith,
      c.requires.few,
      c.self.invariant.0.callers_are,
      ap (λ (e : Events). length e.notes) c.self.view_is,
      length_of c.self.inside.deeds.items
          c.self.inside.callers.items c.self.inside.waivers.items c.self.invariant.0.callers_are,
    )

pub push_reserved-requires-then-goes_on-clause-like : goal.push_reserved-requires-then-goes_on-clause-like
push_reserved-requires-then-goes_on-clause-like c =
    λ _. (idle_goes_on c.self.inside.deeds.items c.self.inside.callers.items c.self.inside.waivers.items c.args.caller c.args.waived.now
    c.self.invariant.0.callers_are (rw (← c.self.view_is) at (sym c.goes_on.ensures ∙ c.if-goes_on.true))).same

pub push_reserved-requires-clause-unmarked : goal.push_reserved-requires-clause-unmarked
push_reserved-requires-clause-unmarked c =
    λ _. goes_on_unmarked c.self.inside.deeds.items c.self.inside.callers.items c.self.inside.waivers.items
    (record { caller = c.args.caller; deed = Idle; waived = c.args.waived.now }) c.self.inside.deeds.marked c.self.inside.callers.marked c.self.invariant.0.callers_are c.self.invariant.2
    (rw (← c.self.view_is) at (sym c.goes_on.ensures ∙ c.if-goes_on.true))

pub push_reserved-requires-then-goes_on-clause-unmarked : goal.push_reserved-requires-then-goes_on-clause-unmarked
push_reserved-requires-then-goes_on-clause-unmarked c =
    λ _. some_caller c.self.inside.callers.items c.args.caller c.self.inside.callers.marked c.self.invariant.2.no_callers
    (idle_goes_on c.self.inside.deeds.items c.self.inside.callers.items c.self.inside.waivers.items c.args.caller c.args.waived.now
    c.self.invariant.0.callers_are (rw (← c.self.view_is) at (sym c.goes_on.ensures ∙ c.if-goes_on.true))).same

pub overflow_add-self : goal.overflow_add-self
overflow_add-self c =
    omega (
      arith,
      c.requires.few,
      c.self.invariant.0.len_is,
      ap (λ (e : Events). length e.notes) c.self.view_is,
      length_of c.self.inside.deeds.items
          c.self.inside.callers.items c.self.inside.waivers.items c.self.invariant.0.callers_are,
    )

pub invariant_of-self : goal.invariant_of-self
invariant_of-self c =
    let on = rw (← c.self.view_is) at (sym c.goes_on.ensures ∙ c.if-goes_on.true) in
    let newest = idle_goes_on c.self.inside.deeds.items c.self.inside.callers.items c.self.inside.waivers.items c.args.caller
    c.args.waived.now c.self.invariant.0.callers_are on in
    let pushed = idle_push c.self.inside.deeds.items c.self.inside.callers.items c.self.inside.len c.self.inside.waivers.items
    c.args.caller c.self.invariant.0.len_is c.self.invariant.0.before in (
      record {
        len_is = rw (c.push_reserved.ensures.items) (omega (
          arith,
          c.self.invariant.0.len_is,
          length-append c.self.inside.deeds.items (Idle ∷ []),
        ));
        few = omega (
          arith,
          c.requires.few,
          c.self.invariant.0.len_is,
          ap (λ (e : Events). length e.notes) c.self.view_is,
          length_of c.self.inside.deeds.items
              c.self.inside.callers.items c.self.inside.waivers.items c.self.invariant.0.callers_are,
        );
        callers_are = rw (c.push_reserved.ensures.items, c.push_reserved-then-goes_on.ensures.items)
            (omega (
              arith,
              length-append c.self.inside.deeds.items (Idle ∷ []),
              length-append c.self.inside.callers.items
                  (c.args.caller ∷ []),
              c.self.invariant.0.callers_are,
            ));
        before = before_later c.self.inside.len (c.self.inside.len + 1) c.self.inside.waivers.items (omega arith) c.self.invariant.0.before;
        ordered = c.self.invariant.0.ordered;
        kept_is = rw (
          c.push_reserved.ensures.items,
          c.push_reserved-then-goes_on.ensures.items,
          pushed,
          c.push_reserved.ensures.kept,
          records_push (record { caller = c.args.caller; deed = Idle; waived = [] })
              (notes_in c.self.inside.deeds.items c.self.inside.callers.items c.self.inside.waivers.items),
          (rw newest.none at on),
        ) (omega (arith, c.self.invariant.0.kept_is));
        callers_kept_is = rw (
          c.push_reserved.ensures.items,
          c.push_reserved-then-goes_on.ensures.items,
          pushed,
          c.push_reserved-then-goes_on.ensures.kept,
          same_caller c.self.inside.deeds.items c.self.inside.callers.items c.self.inside.waivers.items
              (record { caller = c.args.caller; deed = Idle; waived = [] }) c.self.invariant.0.callers_are newest.same,
        ) (omega (arith, c.self.invariant.0.callers_kept_is));
        waives_is = rw (c.push_reserved.ensures.items, c.push_reserved-then-goes_on.ensures.items, pushed)
            (c.self.invariant.0.waives_is ∙ newest.quiet);
      },
      record {
        deeds = omega (arith, c.self.invariant.1.deeds, c.push_reserved.ensures.room_stays refl);
        callers = omega (arith, c.self.invariant.1.callers, c.push_reserved-then-goes_on.ensures.room_stays refl);
        waivers_fit = c.self.invariant.1.waivers_fit;
      },
      rw (c.push_reserved.ensures.items, c.push_reserved.ensures.marked, c.push_reserved-then-goes_on.ensures.marked)
          (still_marked c.self.inside.deeds.items c.self.inside.deeds.marked c.self.inside.callers.marked Idle c.self.invariant.2),
      record {
        deeds = omega (arith, c.self.invariant.3.deeds, c.push_reserved.ensures.memory);
        callers = omega (arith, c.self.invariant.3.callers, c.push_reserved-then-goes_on.ensures.memory);
        waivers = c.self.invariant.3.waivers;
        lasts = c.self.invariant.3.lasts;
        waivers_last = c.self.invariant.3.waivers_last;
      },
    )

pub returns-then-goes_on-clause-marked : goal.returns-then-goes_on-clause-marked
returns-then-goes_on-clause-marked c =
    rw (c.push_reserved.ensures.items, c.push_reserved.ensures.marked, ← c.self.view_is)
    (slots-push c.self.inside.deeds.marked c.self.inside.deeds.items Idle c.self.invariant.2.within)

pub returns-then-goes_on-clause-events : goal.returns-then-goes_on-clause-events
returns-then-goes_on-clause-events c =
    let on = rw (← c.self.view_is) at (sym c.goes_on.ensures ∙ c.if-goes_on.true) in
    let newest = idle_goes_on c.self.inside.deeds.items c.self.inside.callers.items c.self.inside.waivers.items c.args.caller
    c.args.waived.now c.self.invariant.0.callers_are on in
    rw (c.push_reserved.ensures.items, c.push_reserved-then-goes_on.ensures.items, newest.none, ← c.self.view_is)
    (idle_push c.self.inside.deeds.items c.self.inside.callers.items c.self.inside.len c.self.inside.waivers.items
    c.args.caller c.self.invariant.0.len_is c.self.invariant.0.before)
