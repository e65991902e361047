-- What the calls of a die are to it as one that runs, and slots one after the other.
use Rattle.std.proofs.Common.{◌≡◌, ℕ, zero, suc, ◌+◌, ◌<◌, ◌≤◌, Bool, true, false, ap, ◌∙◌, sym, subst, inl, inr, refl, arith, Some, None, Result, Ok, Err}
use Rattle.std.specs.Prelude.{◌-◌, max}
use Rattle.std.proofs.lemmas.Bool.{lt-leb}
use Rattle.std.proofs.lemmas.List.{length_push}
use Rattle.slot_types.specs.Arrivals.{IsArrival}
use Rattle.slot_types.specs.declared.limits.TheConstants.{MAX_SLOT}
use Rattle.slot_types.specs.declared.events.Event.{Event}
use Rattle.slot_types.specs.declared.events.Event.TheVariants as events
use Rattle.slot_types.specs.declared.refusals.Refusal.{Refusal}
use Rattle.slot_types.specs.declared.replies.Reply.{Reply}
use Rattle.slot_types.specs.declared.replies.Reply.TheVariants as replies
use Rattle.slot_types.specs.declared.replies.SlotReply.{SlotReply}
use Rattle.flash_die.specs.declared.nand.NandCall.{NandCall}
use Rattle.die_log.specs.Model.Log.{Log, now, carried_slots}
use Rattle.die_log.specs.Model.Start.{Start}
use Rattle.die_log.specs.Model.Answers.{answer, refusal_of, IsAccepted}
use Rattle.slot_core.specs.Core.{Core, with_entry}
use Rattle.slot_core.specs.Calls.{IsCall, RefusesCall}
use Rattle.flashplan_script_runs.specs.RunningDies.{Accepts, CarriesOut, CarriesSlot, IsAsked, IsCarriedTo, RefusesSlot, RunningDie, running_of}
use Rattle.flashplan_script_runs.specs.ScriptRuns.{GoesOn}

-- One call

pub not_both : {A : Type 0} (b : Bool) → b ≡ false → b ≡ true → A
not_both b up down = absurd cc

slot_counted : (past log : Log) (reply : SlotReply) → log ≡ with_entry 0 events.Slot (replies.Slot reply) past → now log ≡ now past + 1
slot_counted past log reply logged = ap now logged ∙ length_push (carried_slots past) reply.ran

unrefused : (start : Start) (past : Log) → now past < MAX_SLOT → refusal_of start past events.Slot ≡ None
unrefused start past few = rw (lt-leb MAX_SLOT (now past) few) refl

accepted_slot : (start : Start) (past : Log) → now past < MAX_SLOT → IsAccepted (answer start past events.Slot)
unfolding answer
accepted_slot start past few = rw (unrefused start past few) tt

no_refusal : (r : Reply) (refusal : Refusal) → IsAccepted r → r ≡ replies.Refused refusal → ⊥
no_refusal r refusal taken is = subst IsAccepted is taken

accepts : (start : Start) (past log : Log) (event : Event) (reply : Reply) → answer start past event ≡ reply → IsAccepted reply
    → log ≡ with_entry 0 event reply past → Accepts start past event log
accepts start past log event reply is taken logged =
    (subst IsAccepted (sym is) taken, logged ∙ ap (λ (r : Reply). with_entry 0 event r past) (sym is))

no_slot : {A : Type 0} (event : Event) → IsArrival event → event ≡ events.Slot → A
no_slot event arrives is = absurd (subst IsArrival is arrives)

module _ {N : Type 0} {ends : N → NandCall → Bool → N → Type 0} {failures : N → ℕ} {never : Bool} where
  pub slot_carried : (reply : SlotReply) (before after : Core N) → IsCall ends failures never 0 events.Slot (Ok (replies.Slot reply)) before after
      → CarriesSlot (running_of before) (running_of after)
  slot_carried reply before after call = record {
    start_stays = call.start_stays;
    ran = call.ended.ran;
    runs = call.ended.runs;
    accepted = accepts before.start before.log after.log events.Slot (replies.Slot reply) call.ended.answered tt call.ended.logged;
    counted = slot_counted before.log after.log reply call.ended.logged;
  }

  pub slot_refused : (refusal : Refusal) (before after : Core N) → now before.log < MAX_SLOT
      → IsCall ends failures never 0 events.Slot (Err refusal) before after → RefusesSlot refusal (running_of before) (running_of after)
  slot_refused refusal before after few call = by call.ended
    where
      by : RefusesCall events.Slot refusal before after → RefusesSlot refusal (running_of before) (running_of after)
      by (inl h) = absurd (no_refusal _ refusal (accepted_slot before.start before.log few) h.answered)
      by (inr (inl h)) = record {
        start_stays = call.start_stays;
        memory = λ _. h.refusal_is;
        log_stays = λ _. ap (λ (c : Core N). c.log) h.unchanged;
        stays = λ _. ap running_of h.unchanged;
      }
      by (inr (inr (inl h))) = record {
        start_stays = call.start_stays;
        memory = λ up. not_both after.stopped up h.stops;
        log_stays = λ _. h.log_stays;
        stays = λ down. not_both before.stopped h.ran down;
      }
      by (inr (inr (inr h))) = record {
        start_stays = call.start_stays;
        memory = λ up. not_both after.stopped up (ap (λ (c : Core N). c.stopped) h.unchanged ∙ h.was_stopped);
        log_stays = λ _. ap (λ (c : Core N). c.log) h.unchanged;
        stays = λ _. ap running_of h.unchanged;
      }

  pub row_entered : (event : Event) (reply : Reply) (before after : Core N) → IsCall ends failures never 0 event (Ok reply) before after
      → IsAsked event None (running_of before) (running_of after)
  row_entered event reply before after call = record {
    start_stays = call.start_stays;
    stopped_stays = call.ended.runs ∙ sym call.ended.ran;
    ended = λ _. accepts before.start before.log after.log event reply call.ended.answered call.ended.accepted call.ended.logged;
    refused = λ down. not_both before.stopped call.ended.ran down;
  }

  pub row_refused : (event : Event) (refusal : Refusal) (before after : Core N) → IsArrival event
      → IsCall ends failures never 0 event (Err refusal) before after → IsAsked event (Some refusal) (running_of before) (running_of after)
  row_refused event refusal before after arrives call = by call.ended
    where
      by : RefusesCall event refusal before after → IsAsked event (Some refusal) (running_of before) (running_of after)
      by (inl h) = record {
        start_stays = call.start_stays;
        stopped_stays = ap (λ (c : Core N). c.stopped) h.unchanged;
        ended = λ _. (inl h.answered, ap (λ (c : Core N). c.log) h.unchanged);
        refused = λ down. not_both before.stopped h.ran down;
      }
      by (inr (inl h)) = record {
        start_stays = call.start_stays;
        stopped_stays = ap (λ (c : Core N). c.stopped) h.unchanged;
        ended = λ _. (inr (h.accepted, h.refusal_is), ap (λ (c : Core N). c.log) h.unchanged);
        refused = λ down. not_both before.stopped h.ran down;
      }
      by (inr (inr (inl h))) = no_slot event arrives h.slot
      by (inr (inr (inr h))) = record {
        start_stays = call.start_stays;
        stopped_stays = ap (λ (c : Core N). c.stopped) h.unchanged;
        ended = λ up. not_both before.stopped up h.was_stopped;
        refused = λ _. (ap Some h.refusal_is, ap (λ (c : Core N). c.log) h.unchanged);
      }

  -- a device that never fails stops no die
  pub stays_well : (event : Event) (result : Result Reply Refusal) (before after : Core N) → IsCall ends failures never 0 event result before after
      → (never ≡ true) × (before.stopped ≡ false) → (never ≡ true) × (after.stopped ≡ false)
  stays_well event (Ok reply) before after call well = (well.0, call.ended.runs)
  stays_well event (Err refusal) before after call well = (well.0, by call.ended)
    where
      by : RefusesCall event refusal before after → after.stopped ≡ false
      by (inl h) = ap (λ (c : Core N). c.stopped) h.unchanged ∙ well.1
      by (inr (inl h)) = ap (λ (c : Core N). c.stopped) h.unchanged ∙ well.1
      by (inr (inr (inl h))) = absurd (call.device.never well.0 (ap (λ (e : Refusal). Err e) h.refusal_is))
      by (inr (inr (inr h))) = not_both before.stopped well.1 h.was_stopped

-- Slots one after the other

-- up to this slot, on the way to another one, all were carried out
pub record IsOnTheWay (slot present : ℕ) (before after : RunningDie) : Type 0 where
  pub start_stays : after.start ≡ before.start
  pub stopped_stays : after.stopped ≡ before.stopped
  pub more : ℕ
  pub count : now before.log + more ≡ present
  pub carried : CarriesOut before.start more before.log after.log
  pub clock : now after.log ≡ present
  pub within : present ≤ max slot (now before.log)
  pub stays : before.stopped ≡ true → after ≡ before

pub way_begins : (slot : ℕ) (die : RunningDie) → IsOnTheWay slot (now die.log) die die
way_begins slot die = record {
  start_stays = refl;
  stopped_stays = refl;
  more = 0;
  count = omega arith;
  carried = refl;
  clock = refl;
  within = omega arith;
  stays = λ _. refl;
}

pub way_goes_on : (slot present : ℕ) (before between after : RunningDie) → present < slot → IsOnTheWay slot present before between
    → CarriesSlot between after → IsOnTheWay slot (present + 1) before after
way_goes_on slot present before between after left way step = record {
  start_stays = step.start_stays ∙ way.start_stays;
  stopped_stays = step.runs ∙ (sym step.ran ∙ way.stopped_stays);
  more = suc way.more;
  count = omega (arith, way.count);
  carried = (between.log, way.carried, subst (λ (s : Start). Accepts s between.log events.Slot after.log) way.start_stays step.accepted);
  clock = step.counted ∙ ap (λ (n : ℕ). n + 1) way.clock;
  within = omega (arith, left);
  stays = λ down. not_both between.stopped step.ran (way.stopped_stays ∙ down);
}

pub way_stops : (slot present : ℕ) (refusal : Refusal) (before between after : RunningDie) → IsOnTheWay slot present before between
    → RefusesSlot refusal between after → after.stopped ≡ true → IsCarriedTo slot before after
way_stops slot present refusal before between after way step stops = record {
  start_stays = step.start_stays ∙ way.start_stays;
  more = way.more;
  carried = subst (λ (log : Log). CarriesOut before.start way.more before.log log) (sym (step.log_stays stops)) way.carried;
  all = λ up. not_both after.stopped up stops;
  stays = λ down. step.stays (way.stopped_stays ∙ down) ∙ way.stays down;
}

all_came : (slot present from more : ℕ) → from + more ≡ present → present ≤ max slot from → slot ≤ present → more ≡ slot - from
all_came slot present from more count within past = omega arith

pub way_ends : (slot present : ℕ) (before after : RunningDie) → slot ≤ present → IsOnTheWay slot present before after
    → IsCarriedTo slot before after
way_ends slot present before after past way = record {
  start_stays = way.start_stays;
  more = way.more;
  carried = way.carried;
  all = λ _. all_came slot present (now before.log) way.more way.count way.within past;
  stays = way.stays;
}

-- Slots after a run

carries_both : (start : Start) (some more : ℕ) (first between last : Log) → CarriesOut start some first between
    → CarriesOut start more between last → (all : ℕ) × CarriesOut start all first last
carries_both start some zero first between last one other =
    (some, subst (λ (log : Log). CarriesOut start some first log) (sym other) one)
carries_both start some (suc more) first between last one other =
    let earlier = carries_both start some more first between other.0 one other.1 in
    (suc earlier.0, (other.0, earlier.1, other.2))

pub goes_nowhere : (die : RunningDie) → GoesOn die die
goes_nowhere die = record { start_stays = refl; more = 0; carried = refl }

pub goes_further : (slot : ℕ) (before between after : RunningDie) → GoesOn before between → IsCarriedTo slot between after → GoesOn before after
goes_further slot before between after on carried =
    let all = carries_both before.start on.more carried.more before.log between.log after.log on.carried
    (subst (λ (s : Start). CarriesOut s carried.more between.log after.log) on.start_stays carried.carried) in
    record { start_stays = carried.start_stays ∙ on.start_stays; more = all.0; carried = all.1 }

pub goes_twice : (before between after : RunningDie) → GoesOn before between → GoesOn between after → GoesOn before after
goes_twice before between after on later =
    let all = carries_both before.start on.more later.more before.log between.log after.log on.carried
    (subst (λ (s : Start). CarriesOut s later.more between.log after.log) on.start_stays later.carried) in
    record { start_stays = later.start_stays ∙ on.start_stays; more = all.0; carried = all.1 }
