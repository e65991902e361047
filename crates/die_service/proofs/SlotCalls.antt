-- What a call does to the present slot, and why a slot is refused.
use Rattle.std.proofs.Common.{◌≡◌, ◌+◌, ◌<◌, Bool, List, [], ◌∷◌, ◌++◌, ap, ◌∙◌, sym, subst, inl, inr, refl, Option, Some, None, Result, Ok}
use Rattle.std.proofs.Common.{Err}
use Rattle.std.proofs.lemmas.Bool.{lt-leb}
use Rattle.std.proofs.lemmas.List.{length_push}
use Rattle.slot_types.specs.Arrivals.{IsArrival}
use Rattle.slot_types.specs.declared.limits.TheConstants.{MAX_SLOT}
use Rattle.slot_types.specs.declared.events.Event.{Event}
use Rattle.slot_types.specs.declared.events.Event.TheVariants as events
use Rattle.slot_types.specs.declared.refusals.Refusal.{Refusal}
use Rattle.slot_types.specs.declared.refusals.Refusal.TheVariants as because
use Rattle.slot_types.specs.declared.replies.Reply.{Reply}
use Rattle.slot_types.specs.declared.replies.Reply.TheVariants as replies
use Rattle.slot_types.specs.declared.replies.SlotReply.{SlotReply}
use Rattle.die_log.specs.Model.Log.{Log, now, carried_slots}
use Rattle.die_log.specs.Model.Answers.{answer, answer_by, refusal_of, slot_reply, choice, IsAccepted}
use Rattle.die_log.proofs.Numbered.{slot_is}
use Rattle.slot_core.specs.Core.{with_entry}
use Rattle.slot_core.specs.Calls.{RefusedBy}
use Rattle.die_service.specs.declared.refused.RefusedAt.{RefusedAt}
use Rattle.die_service.specs.Passes.{IsTakenReply}
use Rattle.die_service.specs.Runs.{AskedEvent, asked_event}
use Rattle.die_service.proofs.Passing.{submit_taken, collect_taken}
use Rattle.die_service.proofs.Transcripts.{AreReported, said_log, said_accepted, said_refused}
use Rattle.die_log.specs.Model.Start.{Start}

-- Slots

pub slot_counted : (past log : Log) (reply : SlotReply) → log ≡ with_entry 0 events.Slot (replies.Slot reply) past → now log ≡ now past + 1
slot_counted past log reply logged = ap now logged ∙ length_push (carried_slots past) reply.ran

goes_on : (start : Start) (past : Log) → now past < MAX_SLOT → refusal_of start past events.Slot ≡ None
goes_on start past few = rw (lt-leb MAX_SLOT (now past) few) refl

accepted_slot : (start : Start) (past : Log) → now past < MAX_SLOT → IsAccepted (answer start past events.Slot)
unfolding answer
accepted_slot start past few = rw (goes_on start past few) tt

no_refusal : (r : Reply) (refusal : Refusal) → IsAccepted r → r ≡ replies.Refused refusal → ⊥
no_refusal r refusal taken is = subst IsAccepted is taken

-- below the clock's end a slot is refused out of memory alone, unless its device fails
pub slot_refused : (start : Start) (past : Log) (refusal : Refusal) → now past < MAX_SLOT → RefusedBy start past events.Slot refusal
    → refusal ≡ because.NoMemory
slot_refused start past refusal few (inl is) = absurd (no_refusal _ refusal (accepted_slot start past few) is)
slot_refused start past refusal few (inr h) = h.1

same_slot : (s t : SlotReply) → replies.Slot s ≡ replies.Slot t → s ≡ t
same_slot s t e = cc

-- a slot's reply has its number
numbered_by : (start : Start) (past : Log) (slot : SlotReply) (o : Option Refusal) → answer_by start past events.Slot o ≡ replies.Slot slot
    → slot.slot ≡ now past
numbered_by start past slot None e =
    let c = choice start past in
    ap (λ (s : SlotReply). s.slot) (sym (same_slot (slot_reply start past c.waived c.head) slot e)) ∙ slot_is start past c.waived c.head
numbered_by start past slot (Some refusal) e = absurd cc

pub numbered : (start : Start) (past : Log) (slot : SlotReply) → answer start past events.Slot ≡ replies.Slot slot → slot.slot ≡ now past
unfolding answer
numbered start past slot is = numbered_by start past slot (refusal_of start past events.Slot) is

-- Jobs and collections

-- an accepted one takes no slot
pub taken_stays : (start : Start) (past : Log) (event : Event) (reply : Reply) → IsArrival event → answer start past event ≡ reply
    → IsAccepted reply → now (with_entry 0 event reply past) ≡ now past
taken_stays start past (events.Submit task release due ops) reply h is taken = by reply
    (submit_taken start past task release due ops reply is taken)
  where
    by : (r : Reply) → IsTakenReply r → now (with_entry 0 (events.Submit task release due ops) r past) ≡ now past
    by (replies.Taken number) t = refl
    by (replies.Slot slot) t = absurd t
    by (replies.Refused refusal) t = absurd t
taken_stays start past (events.Collect task release due) reply h is taken = by reply
    (collect_taken start past task release due reply is taken)
  where
    by : (r : Reply) → IsTakenReply r → now (with_entry 0 (events.Collect task release due) r past) ≡ now past
    by (replies.Taken number) t = refl
    by (replies.Slot slot) t = absurd t
    by (replies.Refused refusal) t = absurd t
taken_stays start past events.Slot reply h is taken = absurd h

pub stays_at : (never_fails : Bool) (start : Start) (saids before after : List AskedEvent) (event : Event) (reply : Result Reply RefusedAt)
    → AreReported never_fails start saids → saids ≡ before ++ asked_event event reply ∷ after → IsArrival event
    → now (said_log (before ++ asked_event event reply ∷ [])) ≡ now (said_log before)
stays_at never_fails start saids before after event (Ok reply) said is h =
    let t = said.accepted before after event reply is in
    ap now (said_accepted before event reply) ∙ taken_stays start (said_log before) event reply h t.0 t.1
stays_at never_fails start saids before after event (Err refused) said is h = ap now (said_refused before event refused)
