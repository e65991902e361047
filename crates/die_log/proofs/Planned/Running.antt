-- A run leaves the log of its events.
use Rattle.std.proofs.Common.{◌≡◌, ◌⊎◌, ℕ, ◌+◌, ◌<◌, ◌≤◌, nat_le, Bool, true, cond, List, [], ◌∷◌, map, Option, Some, None, refl, ap, sym}
use Rattle.std.proofs.Common.{inl, inr, arith}
use Rattle.std.proofs.lemmas.Bool.{cases_Bool, leb-true}
use Rattle.std.proofs.lemmas.Option.{none-some}
use Rattle.std.proofs.lemmas.List.{length_push}
use Rattle.std.proofs.lemmas.List.Sums.{sum_by-cons}
use Rattle.slot_types.specs.Arrivals.{IsArrival}
use Rattle.slot_types.specs.declared.limits.TheConstants.{MAX_SLOT}
use Rattle.slot_types.specs.declared.events.Event.{Event}
use Rattle.slot_types.specs.declared.events.Event.TheVariants as events
use Rattle.slot_types.specs.declared.refusals.Refusal.{Refusal}
use Rattle.slot_types.specs.declared.refusals.Refusal.TheVariants as because
use Rattle.plan_rules.specs.Keeping.{is_slot, slots}
use Rattle.die_log.specs.Model.Log.{Log, carried_slots, now}
use Rattle.die_log.specs.Model.Answers.{refusal_of, first_that_holds, answer, answer_by, choice, slot_reply, with_answer, after_call, run}
use Rattle.die_log.specs.Results.InTime.{Adds, AreEntered}
use Rattle.die_log.specs.Model.Start.{Start}

abbrev one_if : Bool → ℕ
one_if b = cond b 1 0

-- after a call whose answer is `reply`
record IsEntered (event : Event) (past next : Log) : Type 0 where
  adds : Adds event past next ⊎ (IsArrival event × (next ≡ past))
  slot : now next ≡ now past + cond (is_slot event) 1 0

by_answer : (start : Start) (caller : ℕ) (event : Event) (past : Log) (o : Option Refusal) → (is_slot event ≡ true → o ≡ None)
    → IsEntered event past (with_answer caller event (answer_by start past event o) past)
by_answer start caller (events.Submit task release due ops) past None on_time = record { adds = inl (caller, _, refl); slot = omega arith }
by_answer start caller (events.Submit task release due ops) past (Some r) on_time = record { adds = inr (tt, refl); slot = omega arith }
by_answer start caller (events.Collect task release due) past None on_time = record { adds = inl (caller, _, refl); slot = omega arith }
by_answer start caller (events.Collect task release due) past (Some r) on_time = record { adds = inr (tt, refl); slot = omega arith }
by_answer start caller events.Slot past None on_time =
    let c = choice start past in
    record { adds = inl (caller, _, refl); slot = omega (arith, length_push (carried_slots past) (slot_reply start past c.waived c.head).ran) }
by_answer start caller events.Slot past (Some r) on_time = absurd (none-some r (sym (on_time refl)))

-- no slot is refused before the last one
pub slot_open : (start : Start) (past : Log) → now past < MAX_SLOT → refusal_of start past events.Slot ≡ None
slot_open start past lt = elim (cases_Bool (nat_le MAX_SLOT (now past))) [
  | inl over ↦ absurd (omega (arith, lt, leb-true MAX_SLOT (now past) over))
  | inr left ↦ ap (λ (b : Bool). first_that_holds ((b, because.ClockEnd) ∷ [])) left
]

slot_answered : (start : Start) (event : Event) (past : Log) → (is_slot event ≡ true → now past < MAX_SLOT) → is_slot event ≡ true
    → refusal_of start past event ≡ None
slot_answered start (events.Submit task release due ops) past lt is = absurd cc
slot_answered start (events.Collect task release due) past lt is = absurd cc
slot_answered start events.Slot past lt is = slot_open start past (lt is)

call_enters : (start : Start) (call : ℕ × Event) (past : Log) → (is_slot call.1 ≡ true → now past < MAX_SLOT)
    → IsEntered call.1 past (after_call start past call)
unfolding answer
call_enters start call past lt = by_answer start call.0 call.1 past (refusal_of start past call.1) (slot_answered start call.1 past lt)

-- the events of calls
abbrev pub events_of : List (ℕ × Event) → List Event
events_of calls = map (λ call. call.1) calls

pub run_enters : (start : Start) (calls : List (ℕ × Event)) (past : Log) → now past + slots (events_of calls) ≤ MAX_SLOT
    → AreEntered (events_of calls) past (run start past calls)
run_enters start [] past few = refl
run_enters start (call ∷ calls) past few =
    let counted : slots (events_of (call ∷ calls)) ≡ cond (is_slot call.1) 1 0 + slots (events_of calls) = sum_by-cons
    (λ e. cond (is_slot e) 1 0) call.1 (events_of calls) in
    let e = call_enters start call past (λ is. omega (arith, few, counted, ap one_if is)) in
    (after_call start past call, e.adds, run_enters start calls (after_call start past call) (omega (arith, few, counted, e.slot)))
