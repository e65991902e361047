-- How a call of a die ends, and what follows of it.
use Rattle.std.proofs.Common.{◌≡◌, ◌≢◌, ◌⊎◌, ◌↔◌, inl, inr, ℕ, zero, suc, ◌+◌, ◌<◌, Bool, true, false, List, [], ◌∷◌, Option, Some, None, Ok, Err, refl, ap, sym}
use Rattle.std.proofs.Common.{◌∙◌, subst, arith, IfOk, IfErr}
use Rattle.std.specs.Prelude.{IsSome, IsOk}
use Rattle.std.specs.declared.result.Result.{Result}
use Rattle.std.specs.List.{AllByRecursion}
use Rattle.std.proofs.lemmas.Bool.{true≢false}
use Rattle.std.proofs.lemmas.Option.{same_Some}
use Rattle.slot_types.specs.Arrivals.{IsArrival}
use Rattle.slot_types.specs.declared.events.Event.{Event}
use Rattle.slot_types.specs.declared.events.Event.TheVariants.{Submit, Collect, Slot}
use Rattle.slot_types.specs.declared.refusals.Refusal.{Refusal}
use Rattle.slot_types.specs.declared.refusals.Refusal.TheVariants.{NoMemory, DeviceFault, DieStopped}
use Rattle.slot_types.specs.declared.replies.Reply.{Reply}
use Rattle.slot_types.specs.declared.replies.Reply.TheVariants.{Refused, Taken, Slot as Answered}
use Rattle.flash_die.specs.Calls.{FailsByFault}
use Rattle.flash_die.specs.declared.nand.NandCall.{NandCall}
use Rattle.die_log.specs.Model.Log.{Log}
use Rattle.die_log.specs.Model.Answers.{answer, answer_by, reply_if_accepted, refusal_of, refusals, first_that_holds, IsAccepted, with_answer}
use Rattle.die_log.specs.Model.Start.{Start}
use Rattle.slot_core.specs.Core.{Core, with_entry}
use Rattle.slot_core.specs.Needs.{MakesCall, UsesDevice}
use Rattle.slot_core.specs.Calls.{IsAnswered, IsRefusedByLog, FindsNoMemory, FindsFault, IsStopped, RefusesCall, EndsCall, IsCall}
use Rattle.slot_core.specs.Calls.{call_for, reply_as, reserved_after, IsCovered, HasEntered, RefusedBy, MayRefuse}

pub err_is : {T : Type 0} (r s : Refusal) → ◌≡◌ {A = Result T Refusal} (Err r) (Err s) → r ≡ s
err_is r s e = cc

-- What the log never refuses for

-- all but that memory ran out, and what the device does
abbrev is_logs : Refusal → Bool
is_logs NoMemory = false
is_logs DeviceFault = false
is_logs DieStopped = false
is_logs _ = true

listed : (r : Refusal) (cs : List (Bool × Refusal)) → AllByRecursion (λ c. is_logs c.1 ≡ true) cs → first_that_holds cs ≡ Some r → is_logs r ≡ true
listed r [] all e = absurd cc
listed r ((true, x) ∷ cs) all e = subst (λ y. is_logs y ≡ true) (same_Some x r e) all.0
listed r ((false, x) ∷ cs) all e = listed r cs all.1 e

refused_by : (start : Start) (past : Log) (event : Event) (r : Refusal) (o : Option Refusal) → answer_by start past event o ≡ Refused r
    → reply_if_accepted start past event ≢ Refused r → o ≡ Some r
refused_by start past event r None e other = absurd (other e)
refused_by start past event r (Some x) e other = cc

log_refuses : (start : Start) (past : Log) (event : Event) (r : Refusal) → answer start past event ≡ Refused r → reply_if_accepted start past event
    ≢ Refused r → refusal_of start past event ≡ Some r
unfolding answer
log_refuses start past event r e other = refused_by start past event r (refusal_of start past event) e other

by_log : (start : Start) (past : Log) (event : Event) (r : Refusal) → answer start past event ≡ Refused r → is_logs r ≡ true
by_log start past (Submit task release due ops) r e =
    listed r (refusals start past (Submit task release due ops)) (refl, (refl, (refl, (refl, (refl, (refl, (refl, (refl, tt))))))))
    (log_refuses start past (Submit task release due ops) r e (λ h. absurd cc))
by_log start past (Collect task release due) r e =
    listed r (refusals start past (Collect task release due)) (refl, (refl, (refl, (refl, (refl, tt)))))
    (log_refuses start past (Collect task release due) r e (λ h. absurd cc))
by_log start past Slot r e = listed r (refusals start past Slot) (refl, tt) (log_refuses start past Slot r e (λ h. absurd cc))

not_by_log : (start : Start) (past : Log) (event : Event) (r : Refusal) → is_logs r ≡ false → answer start past event ≡ Refused r → ⊥
not_by_log start past event r other e = true≢false (sym (by_log start past event r e) ∙ other)

pub no_log_fault : (start : Start) (past : Log) (event : Event) (r : Refusal) → answer start past event ≡ Refused r → r ≡ DeviceFault → ⊥
no_log_fault start past event r e is = not_by_log start past event DeviceFault refl (e ∙ ap Refused is)

pub no_log_stop : (start : Start) (past : Log) (event : Event) (r : Refusal) → answer start past event ≡ Refused r → r ≡ DieStopped → ⊥
no_log_stop start past event r e is = not_by_log start past event DieStopped refl (e ∙ ap Refused is)

-- What the device has had

unused : {N A : Type 0} (ends : N → NandCall → Bool → N → Type 0) (failures : N → ℕ) (never : Bool) (needed : Option NandCall) (r : Refusal)
    (before after : N) → (r ≡ DeviceFault → ⊥) → after ≡ before → UsesDevice {A = A} ends failures never needed (Err r) before after
unused ends failures never needed r before after other same = record {
  made = tt;
  failed = λ is. absurd (other (err_is r DeviceFault is));
  counted = λ is. absurd (other (err_is r DeviceFault is));
  uncounted = λ no. ap failures same;
  never = λ yes is. other (err_is r DeviceFault is);
}

arrival_calls : (event : Event) (start : Start) (log : Log) → IsArrival event → call_for event start log ≡ None
arrival_calls (Submit task release due ops) start log is = refl
arrival_calls (Collect task release due) start log is = refl
arrival_calls Slot start log is = absurd is

without_call : {N A : Type 0} (ends : N → NandCall → Bool → N → Type 0) (failures : N → ℕ) (never : Bool) (a : A) (before after : N)
    → after ≡ before → UsesDevice {A = A} ends failures never None (Ok a) before after
without_call ends failures never a before after same = record {
  made = same;
  failed = λ is. absurd cc;
  counted = λ is. absurd cc;
  uncounted = λ no. ap failures same;
  never = λ yes is. absurd cc;
}

-- a slot that the volume carried out, or the device failed
pub used : {N A : Type 0} (ends : N → NandCall → Bool → N → Type 0) (failures : N → ℕ) (never : Bool) (needed : Option NandCall)
    (reply : A → Reply) (r : Result A Refusal) (before after : N) → MakesCall ends failures needed r before after
    → FailsByFault never r (failures before) (failures after) → UsesDevice ends failures never needed (reply_as reply r) before after
used ends failures never needed reply (Ok a) before after m f = record {
  made = m.made;
  failed = λ is. absurd cc;
  counted = λ is. absurd cc;
  uncounted = λ no. m.counted;
  never = λ yes is. absurd cc;
}
used ends failures never needed reply (Err r) before after m f = record {
  made = tt;
  failed = λ is. m.fault f.fault;
  counted = λ is. f.counted;
  uncounted = λ no. absurd (no (ap Err f.fault));
  never = λ yes is. let well = f.never yes in absurd cc;
}

same_core : {N : Type 0} (a b : Core N) → a.start ≡ b.start → a.device ≡ b.device → a.stopped ≡ b.stopped → a.reserved ≡ b.reserved
    → a.lasting ≡ b.lasting → a.log ≡ b.log → a ≡ b
same_core a b s d t r k l = rw s (rw d (rw t (rw r (rw k (rw l refl)))))

pub err_uncovered : {C : Type 0} (r : Result ℕ Refusal) → (C → IsOk r) → IfErr r (λ _. ¬ C)
err_uncovered (Ok number) h = tt
err_uncovered (Err refusal) h = λ covered. let well = h covered in absurd cc

-- The ways

module _ {N : Type 0} (ends : N → NandCall → Bool → N → Type 0) (failures : N → ℕ) (never : Bool) (caller : ℕ) (event : Event) (before after : Core N) where
  abbrev Ends : Result Reply Refusal → Type 0
  Ends result = IsCall ends failures never caller event result before after

  unchanged : (r : Refusal) → (r ≡ DeviceFault → ⊥) → after ≡ before → RefusesCall event r before after → Ends (Err r)
  unchanged r other same ended = record {
    ended = ended;
    start_stays = ap (λ (c : Core N). c.start) same;
    lasting_stays = ap (λ (c : Core N). c.lasting) same;
    device = unused ends failures never (call_for event before.start before.log) r before.device after.device other
        (ap (λ (c : Core N). c.device) same);
  }

  pub log_refused : (r : Refusal) → before.stopped ≡ false → answer before.start before.log event ≡ Refused r → after ≡ before → Ends (Err r)
  log_refused r runs is same = unchanged r (no_log_fault before.start before.log event r is) same
      (inl (record { ran = runs; answered = is; unchanged = same }))

  pub memory_refused : (r : Refusal) → before.stopped ≡ false → IsAccepted (answer before.start before.log event)
      → ¬ IsCovered event before.reserved → r ≡ NoMemory → after ≡ before → Ends (Err r)
  memory_refused r runs accepted uncovered is same = unchanged r (λ fault. absurd cc) same
      (inr (inl (record { ran = runs; accepted = accepted; refusal_is = is; uncovered = uncovered; unchanged = same })))

  pub stopped_refused : before.stopped ≡ true → after ≡ before → Ends (Err DieStopped)
  stopped_refused stops same = unchanged DieStopped (λ fault. absurd cc) same
      (inr (inr (inr (record { was_stopped = stops; refusal_is = refl; unchanged = same }))))

  pub entered : (number : ℕ) → IsArrival event → before.stopped ≡ false → HasEntered caller event number before after → Ends (Ok (Taken number))
  entered number arrives runs h = record {
    ended = record {
      ran = runs;
      answered = h.answered;
      accepted = tt;
      logged = ap (λ (c : Core N). c.log) h.logged;
      runs = ap (λ (c : Core N). c.stopped) h.logged ∙ runs;
      used = ap (λ (c : Core N). c.reserved) h.logged;
    };
    start_stays = ap (λ (c : Core N). c.start) h.logged;
    lasting_stays = ap (λ (c : Core N). c.lasting) h.logged;
    device = rw (arrival_calls event before.start before.log arrives)
        (without_call ends failures never (Taken number) before.device after.device (ap (λ (c : Core N). c.device) h.logged));
  }

  pub of_result : (r : Result ℕ Refusal) → IfOk r (λ number. Ends (Ok (Taken number))) → IfErr r (λ refusal. Ends (Err refusal))
      → Ends (reply_as Taken r)
  of_result (Ok number) taken refused = taken
  of_result (Err refusal) taken refused = refused

  -- What follows of a call

  pub has_entered : (number : ℕ) → IsArrival event → Ends (Ok (Taken number)) → HasEntered caller event number before after
  has_entered number arrives call = record {
    answered = call.ended.answered;
    logged = same_core after (record before {
      reserved = reserved_after event before.reserved;
      log = with_entry caller event (Taken number) before.log;
    }) call.start_stays
        (subst (λ (o : Option NandCall). UsesDevice ends failures never o (Ok (Taken number)) before.device after.device)
        (arrival_calls event before.start before.log arrives) call.device).made
        (call.ended.runs ∙ sym call.ended.ran) call.ended.used call.lasting_stays call.ended.logged;
  }

  -- a die refuses a call as stopped exactly where it was
  pub stopped_only : (r : Refusal) → before.stopped ≡ false → r ≡ DieStopped → Ends (Err r) → ⊥
  stopped_only r runs is call = by call.ended
    where
      by : RefusesCall event r before after → ⊥
      by (inl h) = no_log_stop before.start before.log event r h.answered is
      by (inr (inl h)) = let memory = h.refusal_is in absurd cc
      by (inr (inr (inl h))) = let fault = h.refusal_is in absurd cc
      by (inr (inr (inr h))) = true≢false (sym h.was_stopped ∙ runs)

  -- one that arrives is refused without a change
  pub arrival_stays : (r : Refusal) → IsArrival event → Ends (Err r) → after ≡ before
  arrival_stays r arrives call = by call.ended
    where
      by : RefusesCall event r before after → after ≡ before
      by (inl h) = h.unchanged
      by (inr (inl h)) = h.unchanged
      by (inr (inr (inl h))) = absurd (subst IsArrival h.slot arrives)
      by (inr (inr (inr h))) = h.unchanged

  -- a die with this log may refuse it so, where one whose device never fails is never stopped
  pub may_refuse : (r : Refusal) → (never ≡ true → before.stopped ≡ false) → Ends (Err r) → MayRefuse never before.start before.log event r
  may_refuse r runs call = by call.ended
    where
      fails : (b : Bool) → (b ≡ true → ⊥) → b ≡ false
      fails false h = refl
      fails true h = absurd (h refl)

      by : RefusesCall event r before after → MayRefuse never before.start before.log event r
      by (inl h) = inl (inl h.answered)
      by (inr (inl h)) = inl (inr (h.accepted, h.refusal_is))
      by (inr (inr (inl h))) = inr (inl (
        fails never (λ yes. call.device.never yes (ap Err h.refusal_is)),
        h.slot,
        h.accepted,
        h.refusal_is,
        subst (λ (o : Option NandCall). IsSome o) (sym (call.device.failed (ap Err h.refusal_is)).needed_is) refl,
      ))
      by (inr (inr (inr h))) = inr (inr (fails never (λ yes. true≢false (sym h.was_stopped ∙ runs yes)), h.refusal_is))
