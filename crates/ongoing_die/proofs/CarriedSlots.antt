-- A slot of the die below is a move of its log.
use Rattle.std.proofs.Common.{◌≡◌, ℕ, ◌≤◌, nat_lt, Bool, true, List, [], ◌∷◌, length, map, Result, Ok, Err, refl, ap, sym, subst, ◌∙◌, inl, inr, arith}
use Rattle.std.proofs.lemmas.Bool.{lt-ltb, true≢false}
use Rattle.std.proofs.lemmas.List.{take_all}
use Rattle.slot_types.specs.declared.events.Event.{Event}
use Rattle.slot_types.specs.declared.events.Event.TheVariants as events
use Rattle.slot_types.specs.declared.refusals.Refusal.{Refusal}
use Rattle.slot_types.specs.declared.refusals.Refusal.TheVariants.{DeviceFault}
use Rattle.slot_types.specs.declared.replies.Reply.{Reply}
use Rattle.slot_types.specs.declared.replies.SlotReply.{SlotReply}
use Rattle.flash_die.specs.declared.nand.NandCall.{NandCall}
use Rattle.demand_rules.specs.declared.terms.TaskTerms.{TaskTerms}
use Rattle.demand_rules.specs.declared.terms.Terms.{Terms}
use Rattle.die_log.specs.Model.Log.{Log, now}
use Rattle.die_log.specs.Model.Start.{Start}
use Rattle.die_log.specs.Model.Lives.{Lives}
use Rattle.die_log.specs.Model.Answers.{with_answer, after_call, run}
use Rattle.slot_core.specs.Core.{Core}
use Rattle.slot_core.specs.Calls.{IsCall, RefusesCall}
use Rattle.slot_core.proofs.Calling.{no_log_fault}
use Rattle.planned_log.specs.KeptLogs.{collections_at}
use Rattle.planned_log.specs.Moves.{Move, Slot, after_own, after_move}
use Rattle.ongoing_log.specs.Ongoing.{Ongoing, start_of, going_on, ongoing_after_move, ongoing_after, IsOngoing}
use Rattle.planned_die.specs.Planned.{Planned, HasLived}
use Rattle.planned_die.specs.PlannedCalls.{own_calls, with_all_own, HasSlotted, RefusesSlot, IsSlot}
use Rattle.ongoing_log.specs.PastLives.{PastLife, starts_after, counted, HavePassed}
use Rattle.ongoing_die.specs.Standing.{OngoingParts, standing, StandsAs}
use Rattle.ongoing_die.specs.OngoingCalls.{HasBegun, HaveOnePlan, HasCarried, HasFailed}

module _ {N : Type 0} (caller : ℕ) (before : Planned N) (whole : before.entered ≡ 0)
    (one_each : length before.terms.tasks ≤ length before.core.start.plan.caps) where
  abbrev start : Start
  start = before.core.start

  abbrev log : Log
  log = before.core.log

  -- all collections of the slot come
  pub own_log : (with_all_own caller before).log ≡ after_own start before.terms log caller
  own_log =
      ap (λ n. run start log (own_calls caller before.terms n (length start.plan.caps) (now log))) whole
      ∙ ap (λ (ts : List TaskTerms). run start log (map (λ (e : Event). (caller, e)) (collections_at ts 0 (now log))))
      (take_all (length start.plan.caps) before.terms.tasks one_each)

  module _ (ends : N → NandCall → Bool → N → Type 0) (failures : N → ℕ) (never : Bool) (earlier : Lives) (after : Planned N) where
    pub slot_log : (reply : SlotReply) → HasSlotted ends failures never caller reply before after
        → after.core.log ≡ after_move start before.terms earlier before.life log (Slot caller)
    slot_log reply h =
        let early : nat_lt (now log) before.life ≡ true = lt-ltb (now log) before.life h.early in
        h.carried.ended.logged
        ∙ (sym (ap (λ (r : Reply). with_answer caller events.Slot r (with_all_own caller before).log) h.carried.ended.answered)
        ∙ (ap (λ (l : Log). after_call start l (caller, events.Slot)) own_log
        ∙ rw early refl))

    -- a fault stops the die, and leaves the log with the collections
    pub record Stops (core : Core N) : Type 0 where
      pub stops : core.stopped ≡ true
      pub log_is : core.log ≡ (with_all_own caller before).log

    pub fault_stops : (core : Core N) → IsCall ends failures never caller events.Slot (Err DeviceFault) (with_all_own caller before) core → Stops core
    fault_stops core call = by call.ended
      where
        by : RefusesCall events.Slot DeviceFault (with_all_own caller before) core → Stops core
        by (inl h) = absurd (no_log_fault start (with_all_own caller before).log events.Slot DeviceFault h.answered refl)
        by (inr (inl h)) = let no = h.refusal_is in absurd cc
        by (inr (inr (inl h))) = record { stops = h.stops; log_is = h.log_stays }
        by (inr (inr (inr h))) = let no = h.refusal_is in absurd cc

-- it leaves how long a life is, and where it began
pub slot_first : {N : Type 0} (ends : N → NandCall → Bool → N → Type 0) (failures : N → ℕ) (never : Bool) (caller : ℕ) (before after : Planned N)
    (result : Result SlotReply Refusal) → IsSlot ends failures never caller result before after → after.first ≡ before.first
slot_first {N} ends failures never caller before after (Ok reply) h = ap (λ (p : Planned N). p.first) h.stays
slot_first {N} ends failures never caller before after (Err refusal) h = elim h [
  | inl stopped ↦ ap (λ (p : Planned N). p.first) stopped.2
  | inr other ↦ elim other [
    | inl over ↦ ap (λ (p : Planned N). p.first) over.3
    | inr fault ↦ ap (λ (p : Planned N). p.first) fault.4
  ]
]

pub slot_life : {N : Type 0} (ends : N → NandCall → Bool → N → Type 0) (failures : N → ℕ) (never : Bool) (caller : ℕ) (before after : Planned N)
    (result : Result SlotReply Refusal) → IsSlot ends failures never caller result before after → after.life ≡ before.life
slot_life {N} ends failures never caller before after (Ok reply) h = ap (λ (p : Planned N). p.life) h.stays
slot_life {N} ends failures never caller before after (Err refusal) h = elim h [
  | inl stopped ↦ ap (λ (p : Planned N). p.life) stopped.2
  | inr other ↦ elim other [
    | inl over ↦ ap (λ (p : Planned N). p.life) over.3
    | inr fault ↦ ap (λ (p : Planned N). p.life) fault.4
  ]
]

module _ {N : Type 0} (ends : N → NandCall → Bool → N → Type 0) (failures : N → ℕ) (never : Bool) (caller : ℕ) (first : Start) (d : Ongoing)
    (before between : OngoingParts N) (b : HasBegun first d before between) (after : OngoingParts N) (waits : after.waiting ≡ between.waiting)
    (lived : HasLived after.die (counted b.stands.past)) where
  abbrev die : Planned N
  die = between.die

  abbrev past : List PastLife
  past = b.stands.past

  one_task : length die.terms.tasks ≤ length die.core.start.plan.caps
  one_task = omega (arith, b.stands.lived.kept.demand.has.one_each)

  is : d ≡ standing between past
  is = b.settled

  -- a slot that is carried out
  module _ (reply : SlotReply) (h : HasSlotted ends failures never caller reply die after.die)
      (law : (moves : List Move) → IsOngoing first die.terms die.life (ongoing_after first die.terms die.life d moves)) where
    abbrev next : Ongoing
    next = ongoing_after_move first die.terms die.life d (Slot caller)

    terms_is : after.die.terms ≡ die.terms
    terms_is = ap (λ (p : Planned N). p.terms) h.stays

    life_is : after.die.life ≡ die.life
    life_is = ap (λ (p : Planned N). p.life) h.stays

    start_is : after.die.core.start ≡ die.core.start
    start_is = h.carried.start_stays

    moved : after_move (starts_after first past) die.terms (counted past) die.life die.core.log (Slot caller) ≡ after.die.core.log
    moved =
        ap (λ (t : Start). after_move t die.terms (counted past) die.life die.core.log (Slot caller)) (sym b.stands.starts)
        ∙ sym (slot_log caller die (b.stands.runs b.runs).whole one_task ends failures never (counted past) after.die reply h)

    next_is : next ≡ going_on first die.terms die.life (standing after past)
    next_is =
        ap (λ (x : Ongoing). going_on first die.terms die.life
        (record x { log = after_move (start_of first x) die.terms (counted x.earlier) die.life x.log (Slot caller) })) is
        ∙ (λ i. going_on first die.terms die.life (record { earlier = past; log = moved i; waiting = sym waits i }))

    stands_there : StandsAs first next after
    stands_there = record {
      past = past;
      lived = lived;
      starts = start_is ∙ b.stands.starts;
      passed = subst (λ n. HavePassed first n past) (sym life_is) b.stands.passed;
      one_each = ap (λ l. length l) waits ∙ (b.stands.one_each ∙ ap (λ (t : Start). length t.plan.caps) (sym start_is));
      runs = λ runs. record {
        stands = next_is ∙ (λ i. going_on first (sym terms_is i) (sym life_is i) (standing after past));
        goes_on = subst (λ n. IsOngoing first after.die.terms n next) (sym life_is)
            (subst (λ (t : Terms). IsOngoing first t die.life next) (sym terms_is) (law (Slot caller ∷ [])));
        whole = ap (λ (p : Planned N). p.entered) h.stays;
      };
    }

    pub carried : HasCarried ends failures never caller first d reply before after
    carried = record {
      between = between;
      begun = b;
      carried = h;
      stands = subst (λ n. StandsAs first (ongoing_after_move first before.die.terms n d (Slot caller)) after) b.plan.life
          (subst (λ (t : Terms). StandsAs first (ongoing_after_move first t die.life d (Slot caller)) after) b.plan.terms stands_there);
      runs = h.carried.ended.runs;
    }

    pub carried_plan : HaveOnePlan before after
    carried_plan = record { terms = terms_is ∙ b.plan.terms; life = life_is ∙ b.plan.life }

  -- a slot that isn't
  module _ (refusal : Refusal) (h : RefusesSlot ends failures never caller refusal die after.die) where
    record IsFault : Type 0 where
      pub fault : refusal ≡ DeviceFault
      pub call : IsCall ends failures never caller events.Slot (Err refusal) (with_all_own caller die) after.die.core
      pub stays : after.die ≡ record die { core = after.die.core; entered = length die.core.start.plan.caps }

    is_fault : IsFault
    is_fault = elim h [
      | inl stopped ↦ absurd (true≢false (sym stopped.0 ∙ b.runs))
      | inr other ↦ elim other [
        | inl over ↦ absurd (omega (arith, over.1, b.early))
        | inr fault ↦ record { fault = fault.2; call = fault.3; stays = fault.4 }
      ]
    ]

    stopped : after.die.core.stopped ≡ true
    stopped = (fault_stops caller die (b.stands.runs b.runs).whole one_task ends failures never (counted past) after.die after.die.core
        (subst (λ (r : Refusal). IsCall ends failures never caller events.Slot (Err r) (with_all_own caller die) after.die.core) is_fault.fault
        is_fault.call)).stops

    life_there : after.die.life ≡ die.life
    life_there = ap (λ (p : Planned N). p.life) is_fault.stays

    start_there : after.die.core.start ≡ die.core.start
    start_there = is_fault.call.start_stays

    stands_stopped : StandsAs first d after
    stands_stopped = record {
      past = past;
      lived = lived;
      starts = start_there ∙ b.stands.starts;
      passed = subst (λ n. HavePassed first n past) (sym life_there) b.stands.passed;
      one_each = ap (λ l. length l) waits ∙ (b.stands.one_each ∙ ap (λ (t : Start). length t.plan.caps) (sym start_there));
      runs = λ runs. absurd (true≢false (sym stopped ∙ runs));
    }

    pub failed : HasFailed ends failures never caller first d before after
    failed = record {
      between = between;
      begun = b;
      failed = subst (λ (r : Refusal). RefusesSlot ends failures never caller r die after.die) is_fault.fault h;
      stands = stands_stopped;
      stops = stopped;
    }

    pub failed_plan : HaveOnePlan before after
    failed_plan = record {
      terms = ap (λ (p : Planned N). p.terms) is_fault.stays ∙ b.plan.terms;
      life = life_there ∙ b.plan.life;
    }
