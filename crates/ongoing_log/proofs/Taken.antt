-- What waits goes on to wait until its slot, and is taken there.
use Rattle.std.proofs.Common.{◌≡◌, ◌≢◌, ◌⊎◌, ℕ, ◌+◌, ◌-◌, ◌<◌, ◌≤◌, ◌==◌, nat_lt, Bool, true, false, cond, List, [], ◌∷◌, length, map, get_or}
use Rattle.std.proofs.Common.{Option, Some, None, refl, ap, sym, subst, ◌∙◌, inl, inr, arith}
use Rattle.std.proofs.Math.Nat.{min-le_left, min-le_right}
use Rattle.std.proofs.lemmas.Bool.{eqb-true, cases_lt}
use Rattle.std.proofs.lemmas.Bool.Decides.{nat_tests}
use Rattle.std.proofs.lemmas.List.{get_or-set_other, get_or-set_same}
use Rattle.slot_types.specs.declared.events.Op.{Op}
use Rattle.demand_rules.specs.declared.terms.TaskTerms.{TaskTerms}
use Rattle.demand_rules.specs.declared.terms.Terms.{Terms}
use Rattle.demand_rules.specs.Demand.{terms_of, no_terms}
use Rattle.die_log.specs.Model.Log.{now}
use Rattle.die_log.specs.Model.Start.{Start}
use Rattle.die_log.specs.Model.Lives.{all_slots}
use Rattle.planned_log.specs.declared.ask_kinds.AskKind.{AskKind}
use Rattle.planned_log.specs.declared.refusals.AskRefusal.{AskRefusal}
use Rattle.planned_log.specs.declared.refusals.AskRefusal.TheVariants as because
use Rattle.planned_log.specs.Asks.{Asked, asked_by}
use Rattle.planned_log.specs.AskKinds.{refusal_as, with_asked}
use Rattle.planned_log.specs.Bursts.{jobs_of}
use Rattle.planned_log.specs.Laws.{Accepted, answers_of}
use Rattle.planned_log.specs.Moves.{Ask, Slot}
use Rattle.ongoing_log.specs.PastLives.{counted}
use Rattle.ongoing_log.specs.Ongoing.{WaitingAsk, Ongoing, waiting_of, start_of, clock_of, Answer, Refused, Enters, Waits, WaitsAlready, Past, TooFarAhead}
use Rattle.ongoing_log.specs.Ongoing.{unless_waits, answer_by, answer_to, after_answer, asks_of, due_at, left_at, let_in, living_on, carried, ongoing_after_move, AreLongEnough, IsOngoing}
use Rattle.ongoing_log.specs.Ahead.{refusal_at, last_slot, answer_ahead, answer_at, IsWaitAhead, AheadMove, Now, AskAt, ahead_after_move}
use Rattle.ongoing_log.proofs.Late.{as_burst, due_late, known_task}
use Rattle.ongoing_log.proofs.WhatWaits.{left_reads, one_left}
use Rattle.ongoing_log.proofs.GoingOn.{Sound, sound_now, sound_at, known_waits, let_in_now, asks_here, answers_here, slot_begins, begun_asked, begun_waits}

module _ (first : Start) (terms : Terms) (life : ℕ) (long : AreLongEnough terms life) (d : Ongoing) (k : IsOngoing first terms life d) where
  -- an ask that waits
  pub ask_kept : (kind : AskKind) (caller task release due at : ℕ) (ops : List Op) → answer_at first terms life d kind task ops at ≡ Waits release due
      → waiting_of (ahead_after_move first terms life d (AskAt kind caller task ops at)) task ≡ Some (record { caller = caller; ops = ops; until = release })
  ask_kept kind caller task release due at ops e =
      let s : Sound first terms life d k kind task ops (Waits release due) = subst (Sound first terms life d k kind task ops) e (sound_at first terms life d k kind task ops at) in
      ap (λ (a : Answer). waiting_of (after_answer first terms d kind caller task ops a) task) e
      ∙ get_or-set_same d.waiting task (Some (record { caller = caller; ops = ops; until = release })) None
      (known_waits first terms life d k task (record { caller = caller; ops = ops; until = release }) (s.1 caller))

  module _ (task : ℕ) (w : WaitingAsk) (is : waiting_of d task ≡ Some w) where
    -- no ask is put in its place
    answer_stays : (kind : AskKind) (caller other : ℕ) (ops : List Op) (a : Answer) → Sound first terms life d k kind other ops a
        → waiting_of (after_answer first terms d kind caller other ops a) task ≡ Some w
    answer_stays kind caller other ops (Enters release due) s = is
    answer_stays kind caller other ops (Waits release due) s =
        get_or-set_other d.waiting other task (Some (record { caller = caller; ops = ops; until = release })) None apart ∙ is
      where
        none_some : None ≡ Some w → ⊥
        none_some e = absurd cc

        apart : task ≢ other
        apart same = none_some (sym s.0 ∙ (ap (waiting_of d) (sym same) ∙ is))
    answer_stays kind caller other ops (Refused refusal) s = is
    answer_stays kind caller other ops WaitsAlready s = is
    answer_stays kind caller other ops Past s = is
    answer_stays kind caller other ops (TooFarAhead last) s = is

    module _ (caller : ℕ) where
      abbrev begun : Ongoing
      begun = living_on life (carried first terms life d caller)

      waits_there : waiting_of begun task ≡ Some w
      waits_there = begun_waits first terms life d k long caller task ∙ is

      clock_there : clock_of (let_in first terms life begun) ≡ clock_of begun
      clock_there = ap (λ n. all_slots (counted begun.earlier) + n) (let_in_now first terms life begun (slot_begins first terms life d k long caller))

      slot_stays : (waiting_of (let_in first terms life begun) task ≡ Some w) ⊎ (clock_of (let_in first terms life begun) ≡ w.until)
      slot_stays = by (w.until == clock_of begun) refl
        where
          by : (b : Bool) → (w.until == clock_of begun) ≡ b
              → (waiting_of (let_in first terms life begun) task ≡ Some w) ⊎ (clock_of (let_in first terms life begun) ≡ w.until)
          by true e = inr (clock_there ∙ sym (eqb-true w.until (clock_of begun) e))
          by false e = inl (left_reads (clock_of begun) begun.waiting task ∙ one_left (clock_of begun) (waiting_of begun task) w waits_there e)

      pub is_taken : clock_of begun ≡ w.until → answers_of (start_of first begun) terms (counted begun.earlier) life task begun.log
          (asks_of 0 (map (due_at (clock_of begun)) begun.waiting))
          ≡ Accepted (now begun.log) (now begun.log + (terms_of terms task).deadline) ∷ []
      is_taken here = answers_here first terms life begun (slot_begins first terms life d k long caller) task w waits_there here

      pub enters : let next = ongoing_after_move first terms life d (Slot caller) in clock_of next ≡ w.until
          → asked_by task (next.log ∷ counted next.earlier) ≡ with_asked w.until (jobs_of w.ops) (asked_by task (d.log ∷ counted d.earlier))
      enters here =
          let there : clock_of begun ≡ w.until = sym clock_there ∙ here in
          asks_here first terms life begun (slot_begins first terms life d k long caller) task w waits_there there
          ∙ (λ i. with_asked (there i) (jobs_of w.ops) (begun_asked first terms life d k long caller task i))

    pub stays : (move : AheadMove) → (waiting_of (ahead_after_move first terms life d move) task ≡ Some w)
        ⊎ (clock_of (ahead_after_move first terms life d move) ≡ w.until)
    stays (Now (Ask kind caller other ops)) =
        inl (answer_stays kind caller other ops (answer_to first terms life d kind other ops) (sound_now first terms life d k kind other ops))
    stays (Now (Slot caller)) = slot_stays caller
    stays (AskAt kind caller other ops at) =
        inl (answer_stays kind caller other ops (answer_at first terms life d kind other ops at) (sound_at first terms life d k kind other ops at))

-- For how long it waits

module _ (first : Start) (terms : Terms) (life : ℕ) (d : Ongoing) (k : IsOngoing first terms life d) (kind : AskKind) (task : ℕ) (ops : List Op) where
  abbrev began : ℕ
  began = all_slots (counted d.earlier)

  abbrev t : TaskTerms
  t = terms_of terms task

  abbrev refuses : Option AskRefusal
  refuses = refusal_as kind (start_of first d).plan terms life (counted d.earlier) d.log task ops

  -- the jobs of an ask that is refused for the end of the life would be due after it, as at that slot
  late_as : (slot : ℕ) → refusal_at kind (start_of first d).plan terms life (counted d.earlier) d.log slot task ops ≡ Some because.LifeEnd → life < slot + t.deadline
  late_as slot e = due_late (start_of first d).plan terms life task ops began slot (asked_by task (d.log ∷ counted d.earlier))
      (as_burst (start_of first d).plan terms life task ops kind began slot (asked_by task (d.log ∷ counted d.earlier)) e)

  abbrev WaitsFew : Answer → Type 0
  WaitsFew (Waits release due) = life < now d.log + t.deadline
  WaitsFew _ = Unit {0}

  waits_few : (v : Option WaitingAsk) (o : Option AskRefusal) → refuses ≡ o → WaitsFew (answer_by began (now d.log) life t.deadline v o)
  waits_few None None e = tt
  waits_few (Some w) None e = tt
  waits_few None (Some because.LifeEnd) e = late_as (now d.log) e
  waits_few (Some w) (Some because.LifeEnd) e = tt
  waits_few v (Some because.DieStopped) e = tt
  waits_few v (Some because.UnknownTask) e = tt
  waits_few v (Some because.EmptyJob) e = tt
  waits_few v (Some (because.TooManyOps most)) e = tt
  waits_few v (Some (because.BadPage page)) e = tt
  waits_few v (Some (because.TooManyWrites most)) e = tt
  waits_few v (Some (because.TooSoon next)) e = tt

  pub waits_for_few : (release due : ℕ) → answer_to first terms life d kind task ops ≡ Waits release due → life < now d.log + t.deadline
  waits_for_few release due e = subst WaitsFew e (waits_few (waiting_of d task) refuses refl)

  module _ (at : ℕ) where
    abbrev last : ℕ
    last = last_slot (clock_of d) t.period began life

    abbrev refuses_at : Option AskRefusal
    refuses_at = refusal_at kind (start_of first d).plan terms life (counted d.earlier) d.log (at - began) task ops

    abbrev WaitsAhead : Answer → Type 0
    WaitsAhead (Waits release due) = IsWaitAhead terms life d task at release due
    WaitsAhead _ = Unit {0}

    -- for the present slot
    waits_now : at ≡ clock_of d → (v : Option WaitingAsk) (o : Option AskRefusal) → refuses ≡ o → WaitsAhead (answer_by began (now d.log) life t.deadline v o)
    waits_now here None None e = tt
    waits_now here (Some w) None e = tt
    waits_now here None (Some because.LifeEnd) e =
        let known = known_task (start_of first d).plan terms life task ops began (now d.log) (asked_by task (d.log ∷ counted d.earlier))
        (as_burst (start_of first d).plan terms life task ops kind began (now d.log) (asked_by task (d.log ∷ counted d.earlier)) e) in
        let own = k.kept.demand.has.each task no_terms (omega (arith, known, k.kept.demand.has.one_each)) in
        record {
          over = omega (arith, here);
          near = omega (arith, here, own.some_period);
          released = inr (refl, omega (arith, here, k.goes_on), omega (arith, here, late_as (now d.log) e));
          due_is = refl;
        }
    waits_now here (Some w) (Some because.LifeEnd) e = tt
    waits_now here v (Some because.DieStopped) e = tt
    waits_now here v (Some because.UnknownTask) e = tt
    waits_now here v (Some because.EmptyJob) e = tt
    waits_now here v (Some (because.TooManyOps most)) e = tt
    waits_now here v (Some (because.BadPage page)) e = tt
    waits_now here v (Some (because.TooManyWrites most)) e = tt
    waits_now here v (Some (because.TooSoon next)) e = tt

    module _ (later : clock_of d < at) where
      by_last : (release : ℕ) → (at ≤ last → IsWaitAhead terms life d task at release (release + t.deadline)) → (v : Option WaitingAsk) (b : Bool)
          → nat_lt last at ≡ b → WaitsAhead (cond b (TooFarAhead last) (unless_waits v (Waits release (release + t.deadline))))
      by_last release waits v true e = tt
      by_last release waits None false e = waits (grind (arith, nat_tests, e))
      by_last release waits (Some w) false e = tt

      near_by : at ≤ last → at < clock_of d + t.period
      near_by le = omega (arith, le, later, min-le_left (clock_of d + t.period - 1) (began + life))

      end_by : at ≤ last → at ≤ began + life
      end_by le = omega (arith, le, min-le_right (clock_of d + t.period - 1) (began + life))

      for_slot : at ≤ last → IsWaitAhead terms life d task at at (at + t.deadline)
      for_slot le = record { over = omega (arith, later); near = near_by le; released = inl refl; due_is = refl }

      for_end : refuses_at ≡ Some because.LifeEnd → at ≤ last → IsWaitAhead terms life d task at (began + life) (began + life + t.deadline)
      for_end e le = record {
        over = omega (arith, later);
        near = near_by le;
        released = elim (cases_lt at (began + life)) [
          | inl before ↦ inr (refl, before, omega (arith, before, later, late_as (at - began) e))
          | inr there ↦ inl (omega (arith, there, end_by le))
        ];
        due_is = refl;
      }

      waits_later : (o : Option AskRefusal) → refuses_at ≡ o → WaitsAhead (answer_ahead at last began life t.deadline (waiting_of d task) o)
      waits_later None e = by_last at for_slot (waiting_of d task) (nat_lt last at) refl
      waits_later (Some because.LifeEnd) e = by_last (began + life) (for_end e) (waiting_of d task) (nat_lt last at) refl
      waits_later (Some because.DieStopped) e = tt
      waits_later (Some because.UnknownTask) e = tt
      waits_later (Some because.EmptyJob) e = tt
      waits_later (Some (because.TooManyOps most)) e = tt
      waits_later (Some (because.BadPage page)) e = tt
      waits_later (Some (because.TooManyWrites most)) e = tt
      waits_later (Some (because.TooSoon next)) e = tt

    abbrev ahead : Answer
    ahead = answer_ahead at last began life t.deadline (waiting_of d task) refuses_at

    not_past : clock_of d ≤ at → (b : Bool) → (at == clock_of d) ≡ b → WaitsAhead (cond b (answer_to first terms life d kind task ops) ahead)
    not_past le true e = waits_now (eqb-true at (clock_of d) e) (waiting_of d task) refuses refl
    not_past le false e = waits_later (grind (arith, nat_tests, le, e)) refuses_at refl

    waits_so : (b : Bool) → nat_lt at (clock_of d) ≡ b → WaitsAhead (cond b Past (cond (at == clock_of d) (answer_to first terms life d kind task ops) ahead))
    waits_so true e = tt
    waits_so false e = not_past (grind (arith, nat_tests, e)) (at == clock_of d) refl

    pub waits_ahead : (release due : ℕ) → answer_at first terms life d kind task ops at ≡ Waits release due → IsWaitAhead terms life d task at release due
    waits_ahead release due e = subst WaitsAhead e (waits_so (nat_lt at (clock_of d)) refl)
