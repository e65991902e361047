-- What becomes of a slot that has begun: it is carried out, or it fails, and an arrival after it leaves it as it is.
use Rattle.std.proofs.Common.{◌≡◌, ◌↔◌, ℕ, ◌<◌, Bool, true, false, Option, Some, None, Ok, Err, refl, sym, ap, subst, ◌∙◌, inl, inr}
use Rattle.std.specs.Prelude.{Result, IfSome}
use Rattle.std.proofs.lemmas.Bool.{true≢false, cases_lt}
use Rattle.slot_types.specs.Arrivals.{IsArrival}
use Rattle.slot_types.specs.declared.events.Event.{Event}
use Rattle.slot_types.specs.declared.events.Event.TheVariants as events
use Rattle.slot_types.specs.declared.refusals.Refusal.{Refusal}
use Rattle.slot_types.specs.declared.refusals.Refusal.TheVariants.{DieStopped}
use Rattle.slot_types.specs.declared.replies.SlotReply.{SlotReply}
use Rattle.slot_types.specs.declared.replies.Reply.TheVariants as replies
use Rattle.flash_die.specs.declared.nand.NandCall.{NandCall}
use Rattle.die_log.specs.Model.Log.{now}
use Rattle.die_log.specs.Model.Answers.{answer, reply_if_accepted}
use Rattle.die_log.specs.Results.Promises.{KeepsPromises}
use Rattle.die_log.proofs.Legality.{accepted_answer}
use Rattle.slot_core.specs.Calls.{reserved_after, HasEntered, FindsFault, RefusesCall, IsCall, reply_as}
use Rattle.slot_core.specs.Core.{Core, Reserved}
use Rattle.slot_core.proofs.Calling.{has_entered, arrival_stays, stopped_only}
use Rattle.slot_core.proofs.Slotting.{slot_unrefused}
use Rattle.stepped_die.specs.declared.calls.Begun.{Begun}
use Rattle.stepped_die.specs.declared.mirror.MirrorNand.{MirrorNand}
use Rattle.stepped_die.specs.declared.part.Part.{Part}
use Rattle.stepped_die.specs.declared.refusals.StepRefusal.{StepRefusal}
use Rattle.stepped_die.specs.declared.refusals.StepRefusal.TheVariants as refuses
use Rattle.stepped_die.specs.Arrivals.{WaitsAfter}
use Rattle.stepped_die.specs.Steps.{HoldsBack, RefusesArrival}
use Rattle.stepped_die.specs.Stepped.{Stepped, IsPresent, IsStepped, mirror_of}
use Rattle.stepped_die.specs.DeviceCalls.{DoesWell, reported_by}
use Rattle.stepped_die.proofs.Arriving.{arrival_leaves}

abbrev pub Mirror : Type 0
Mirror = MirrorNand

abbrev pub ends : Mirror → NandCall → Bool → Mirror → Type 0
ends d call well e = DoesWell d.memory call well e.memory

abbrev pub failures : Mirror → ℕ
failures f = 0

-- Refusals

not_refused : (s : SlotReply) (r : Refusal) → replies.Slot s ≡ replies.Refused r → ⊥
not_refused s r is = absurd cc

-- the log accepts the slot, so it is refused for a fault alone
pub refused_for_fault : (before after : Core Mirror) (begun : Begun) (r : Refusal) → before.stopped ≡ false → IsPresent before begun
    → RefusesCall events.Slot r before after → FindsFault events.Slot r before after
refused_for_fault before after begun r runs h (inl own) = absurd (not_refused _ r (sym accepts ∙ own.answered))
  where
    accepts : answer before.start before.log events.Slot ≡ reply_if_accepted before.start before.log events.Slot
    accepts = accepted_answer before.start before.log events.Slot
        (slot_unrefused before.start before.log (now before.log) refl h.few)
refused_for_fault before after begun r runs h (inr (inl memory)) = absurd (memory.uncovered h.reserved)
refused_for_fault before after begun r runs h (inr (inr (inl fault))) = fault
refused_for_fault before after begun r runs h (inr (inr (inr stopped))) = absurd (true≢false (sym stopped.was_stopped ∙ runs))

-- A mirror has no fault. So a slot that has begun is carried out
pub not_refused_here : (before after : Core Mirror) (begun : Begun) (r : Refusal) → before.stopped ≡ false
    → IsPresent before begun → IsCall ends failures true begun.caller events.Slot (Err r) before after → ⊥
not_refused_here before after begun r runs h call =
    call.device.never refl (ap Err (refused_for_fault before after begun r runs h call.ended).refusal_is)

-- Arrivals

die_is : {T : Type 0} (r s : Refusal) → ◌≡◌ {A = Result T StepRefusal} (Err (refuses.Die r)) (Err (refuses.Die s)) → r ≡ s
die_is r s e = cc

-- what arrives later takes nothing of what is reserved for slots
slots_stay : (event : Event) (reserved : Reserved) (present : ℕ) → WaitsAfter present event
    → (reserved_after event reserved).slots ≡ reserved.slots
slots_stay (events.Submit task release due ops) reserved present h = refl
slots_stay (events.Collect task release due) reserved present h = refl
slots_stay events.Slot reserved present h = absurd h

present_stays : (before : Core Mirror) (caller : ℕ) (event : Event) (number : ℕ) (begun : Begun) (after : Core Mirror)
    → KeepsPromises before.start before.log → HasEntered caller event number before after → WaitsAfter (now before.log) event
    → IsPresent before begun → IsPresent after begun
present_stays before caller event number begun after keeps taken beyond h =
    let same = (arrival_leaves before.start before.log caller event number keeps.opens keeps.exact taken.answered beyond).2 in
    subst (λ (c : Core Mirror). IsPresent c begun) (sym taken.logged) (record {
      slot_is = h.slot_is;
      few = h.few;
      call_is = h.call_is ∙ ap (reported_by (mirror_of before)) (sym same);
      reserved = subst (λ (n : ℕ). 0 < n) (sym (slots_stay event before.reserved (now before.log) beyond)) h.reserved;
    })

begun_stays : (o : Option Begun) (before : Core Mirror) (caller : ℕ) (event : Event) (number : ℕ) (after : Core Mirror)
    → KeepsPromises before.start before.log → HasEntered caller event number before after
    → IfSome o (λ b. WaitsAfter b.slot event) → IfSome o (IsPresent before) → IfSome o (IsPresent after)
begun_stays None before caller event number after keeps taken beyond h = tt
begun_stays (Some b) before caller event number after keeps taken beyond h =
    present_stays before caller event number b after keeps taken
    (subst (λ (n : ℕ). WaitsAfter n event) h.slot_is beyond) h

-- a die goes on with its slot, whatever arrives after it
pub arrival_keeps : (die : Stepped) (caller : ℕ) (event : Event) (number : ℕ) (after : Core Mirror)
    → IsStepped die → KeepsPromises die.core.start die.core.log → HasEntered caller event number die.core after
    → IfSome die.begun (λ b. WaitsAfter b.slot event) → IsStepped (record die { core = after })
arrival_keeps die caller event number after h keeps taken beyond = record {
  none = λ stops. h.none (sym stopped ∙ stops);
  present = begun_stays die.begun die.core caller event number after keeps taken beyond h.present;
}
  where
    stopped : after.stopped ≡ die.core.stopped
    stopped = ap (λ (c : Core Mirror). c.stopped) taken.logged

not_held : (o : Option Begun) (release : ℕ) (held : Bool) → (HoldsBack release o → held ≡ true) → held ≡ false
    → IfSome o (λ b. b.slot < release)
not_held None release held h e = tt
not_held (Some b) release held h e = elim (cases_lt b.slot release) [
  | inl below ↦ below
  | inr past ↦ absurd (true≢false (sym (h (refl, past)) ∙ e))
]

none_held : (before : Stepped) (begun : Option Begun) (release : ℕ) (held : Bool) → begun ≡ before.begun
    → (HoldsBack release before.begun → held ≡ true) → held ≡ false → IfSome begun (λ b. b.slot < release)
none_held before begun release held is h e =
    subst (λ (o : Option Begun). IfSome o (λ b. b.slot < release)) (sym is) (not_held before.begun release held h e)

-- whether it was accepted or not
answer_keeps : (core : Core Mirror) (begun : Option Begun) (part : Part) (caller : ℕ) (event : Event) (after : Core Mirror) (r : Result ℕ Refusal)
    → IsStepped (record { core = core; begun = begun; part = part }) → KeepsPromises core.start core.log → IsArrival event
    → IsCall ends failures true caller event (reply_as replies.Taken r) core after
    → IfSome begun (λ b. WaitsAfter b.slot event) → IsStepped (record { core = after; begun = begun; part = part })
answer_keeps core begun part caller event after (Ok number) h keeps arrives call beyond =
    arrival_keeps (record { core = core; begun = begun; part = part }) caller event number after h keeps
    (has_entered ends failures true caller event core after number arrives call) beyond
answer_keeps core begun part caller event after (Err refusal) h keeps arrives call beyond =
    subst (λ (c : Core Mirror). IsStepped (record { core = c; begun = begun; part = part }))
    (sym (arrival_stays ends failures true caller event core after refusal arrives call)) h

-- of either kind, where no slot holds it back
pub arrived_keeps : (before : Stepped) (core : Core Mirror) (begun : Option Begun) (part : Part) (release caller : ℕ) (event : Event) (after : Core Mirror)
    (r : Result ℕ Refusal) (held : Bool) → begun ≡ before.begun → IsStepped (record { core = core; begun = begun; part = part })
    → KeepsPromises core.start core.log → IsArrival event → ((slot : ℕ) → slot < release → WaitsAfter slot event)
    → IsCall ends failures true caller event (reply_as replies.Taken r) core after
    → (HoldsBack release before.begun → held ≡ true) → held ≡ false → IsStepped (record { core = after; begun = begun; part = part })
arrived_keeps before core begun part release caller event after r held is h keeps arrives beyond call holds free =
    answer_keeps core begun part caller event after r h keeps arrives call
    (waits begun event release beyond (none_held before begun release held is holds free))
  where
    waits : (o : Option Begun) (e : Event) (n : ℕ) → ((slot : ℕ) → slot < n → WaitsAfter slot e) → IfSome o (λ b. b.slot < n)
        → IfSome o (λ b. WaitsAfter b.slot e)
    waits None e n w below = tt
    waits (Some b) e n w below = w b.slot below

-- a stopped die refuses each
pub stopped_refuses : (release : ℕ) (event : Event) (die : Stepped) → die.core.stopped ≡ true
    → RefusesArrival release event die die (refuses.Die DieStopped)
stopped_refuses release event die stops = inr (inr (inr (record {
  was_stopped = stops;
  refusal_is = refl;
  unchanged = refl;
})))

-- as the die is answered
abbrev pub stepped_answer : Result ℕ Refusal → Result ℕ StepRefusal
stepped_answer (Ok number) = Ok number
stepped_answer (Err refusal) = Err (refuses.Die refusal)

-- and one that runs answers none as a stopped one does
pub answered_running : (caller : ℕ) (event : Event) (before after : Core Mirror) (r : Result ℕ Refusal) → before.stopped ≡ false
    → IsCall ends failures true caller event (reply_as replies.Taken r) before after
    → (stepped_answer r ≡ Err (refuses.Die DieStopped)) ↔ (before.stopped ≡ true)
answered_running caller event before after (Ok number) runs call = (
  (λ is. absurd cc),
  (λ stops. absurd (true≢false (sym stops ∙ runs))),
)
answered_running caller event before after (Err refusal) runs call = (
  (λ is. absurd (stopped_only ends failures true caller event before after refusal runs (die_is _ _ is) call)),
  (λ stops. absurd (true≢false (sym stops ∙ runs))),
)

-- The end of a slot

pub present_of : (core : Core Mirror) (o : Option Begun) (begun : Begun) → o ≡ Some begun → IfSome o (IsPresent core) → IsPresent core begun
present_of core o begun is h = subst (λ (x : Option Begun). IfSome x (IsPresent core)) is h
