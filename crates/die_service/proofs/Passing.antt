-- What a call in the die's turn tells its pass.
use Rattle.std.proofs.Common.{◌≡◌, ℕ, ◌<◌, Bool, List, [], ◌∷◌, ◌++◌, Result, Ok, Err, IfOk, IfErr, Option, Some, None, if◌then◌else◌, sym, ◌∙◌}
use Rattle.std.proofs.Common.{subst}
use Rattle.std.proofs.lemmas.List.{append-nil}
use Rattle.std.specs.Prelude.{is_ok}
use Rattle.slot_types.specs.declared.events.Event.{Event}
use Rattle.slot_types.specs.declared.events.Event.TheVariants.{Submit, Collect, Slot}
use Rattle.slot_types.specs.declared.events.Op.{Op}
use Rattle.slot_types.specs.declared.refusals.Refusal.{Refusal}
use Rattle.slot_types.specs.declared.replies.Reply.{Reply}
use Rattle.slot_types.specs.declared.replies.Reply.TheVariants as replies
use Rattle.slot_types.specs.declared.replies.SlotReply.{SlotReply}
use Rattle.turn_lock.specs.Log.{entry, calls_by}
use Rattle.turn_lock.specs.Passes.{Replies}
use Rattle.die_log.specs.Model.Log.{Log}
use Rattle.slot_core.specs.declared.events.ReplyNote.{ReplyNote}
use Rattle.slot_core.specs.Events.{reply_of_note}
use Rattle.die_log.specs.Model.Answers.{answer, answer_by, refusal_of, IsAccepted}
use Rattle.turn_lock.specs.Views.{IsSamePass}
use Rattle.die_service.specs.declared.refused.RefusedAt.{RefusedAt}
use Rattle.die_service.specs.PassWorks.{MayCall}
use Rattle.die_service.specs.Runs.{asked_event}
use Rattle.die_service.specs.Logs.{log_of}
use Rattle.die_service.specs.Stores.{DiePass}
use Rattle.die_service.specs.Work.{Asked}
use Rattle.die_service.specs.Replies.{HasExactLog, MayReply, result_of_note}
use Rattle.die_service.specs.Passes.{DieView, AddsEntry, AddsNone, IsTakenReply, IsSlotReply}
use Rattle.die_log.specs.Model.Start.{Start}
use Rattle.die_service.proofs.SlotNumbers.{slot_below}

-- what the lock says of a call
abbrev Said : Bool → DieView → Event → Result Reply RefusedAt → DieView → Type 0
Said never v event result w = Replies is_ok HasExactLog (λ start calls caller event reply. MayReply never start calls event reply) v event
    result w

-- and of the pass's own calls
abbrev Owns : DieView → Event → Result Reply RefusedAt → DieView → Type 0
Owns v event result w = calls_by v.number w.seen ≡ calls_by v.number v.seen
    ++ (if is_ok result then entry v.number event result ∷ [] else [])

pub added : (never : Bool) (v : DieView) (event : Event) (result : Result Reply RefusedAt) (w : DieView) → Said never v event result w
    → Owns v event result w → IfOk result (λ reply. AddsEntry v event reply w)
added never v event (Ok reply) w said own = record {
  before = said.0;
  grown = said.1;
  view_is = said.2;
  answered = said.3.0;
  exact = said.4;
  own = own;
}
added never v event (Err refused) w said own = tt

pub left : (never : Bool) (v : DieView) (event : Event) (result : Result Reply RefusedAt) (w : DieView) → Said never v event result w
    → Owns v event result w → IfErr result (λ refused. AddsNone never v event refused w)
left never v event (Ok reply) w said own = tt
left never v event (Err refused) w said own = record {
  grown = said.0;
  entries = said.1.0;
  reason = said.1.1;
  own = own
      ∙ append-nil (calls_by v.number v.seen);
}

-- .. where no more than a note of the reply is kept

pub noted_accepted : (never : Bool) (v : DieView) (event : Event) (result : Result ReplyNote RefusedAt) (w : DieView)
    → Said never v event (result_of_note result) w → IfOk result (λ note. IsAccepted (reply_of_note note))
noted_accepted never v event (Ok note) w said = said.3.1
noted_accepted never v event (Err refused) w said = tt

pub noted_added : (never : Bool) (v : DieView) (event : Event) (result : Result ReplyNote RefusedAt) (w : DieView)
    → Said never v event (result_of_note result) w → Owns v event (result_of_note result) w
    → IfOk result (λ note. AddsEntry v event (reply_of_note note) w)
noted_added never v event (Ok note) w said own = added never v event (Ok (reply_of_note note)) w said own
noted_added never v event (Err refused) w said own = tt

pub noted_left : (never : Bool) (v : DieView) (event : Event) (result : Result ReplyNote RefusedAt) (w : DieView)
    → Said never v event (result_of_note result) w → Owns v event (result_of_note result) w
    → IfErr result (λ refused. AddsNone never v event refused w)
noted_left never v event (Ok note) w said own = tt
noted_left never v event (Err refused) w said own = left never v event (Err refused) w said own

-- .. by a worker

pub noted_called : (never : Bool) (p q : DiePass) (event : Event) (result : Result ReplyNote RefusedAt) → IsSamePass p q
    → Said never p.view event (result_of_note result) q.view → Owns p.view event (result_of_note result) q.view
    → IfOk result (λ note. MayCall never p (Asked (asked_event event (Ok (reply_of_note note)))) q)
noted_called never p q event (Ok note) same said own = (same, noted_added never p.view event (Ok note) q.view said own)
noted_called never p q event (Err refused) same said own = tt

pub noted_refused : (never : Bool) (p q : DiePass) (event : Event) (result : Result ReplyNote RefusedAt) → IsSamePass p q
    → Said never p.view event (result_of_note result) q.view → Owns p.view event (result_of_note result) q.view
    → IfErr result (λ refused. MayCall never p (Asked (asked_event event (Err refused))) q)
noted_refused never p q event (Ok note) same said own = tt
noted_refused never p q event (Err refused) same said own = (same, noted_left never p.view event (Err refused) q.view said own)

pub slot_called : (never : Bool) (p q : DiePass) (note : ReplyNote) (slot : SlotReply) → IsSamePass p q
    → Said never p.view Slot (result_of_note (Ok note)) q.view → Owns p.view Slot (result_of_note (Ok note)) q.view
    → reply_of_note note ≡ replies.Slot slot → MayCall never p (Asked (asked_event Slot (Ok (replies.Slot slot)))) q
slot_called never p q note slot same said own is =
    subst (λ (r : Reply). MayCall never p (Asked (asked_event Slot (Ok r))) q) is (noted_called never p q Slot (Ok note) same said own)

pub slot_few : (never : Bool) (p q : DiePass) (slot : SlotReply) → MayCall never p (Asked (asked_event Slot (Ok (replies.Slot slot)))) q
    → slot.slot < 1048576
slot_few never p q slot call = slot_below call.1.grown.topic (log_of call.1.before.seen) slot call.1.answered

-- Which replies a die gives

taken_where : (start : Start) (past : Log) (task release due : ℕ) (ops : List Op) (o : Option Refusal) (reply : Reply)
    → answer_by start past (Submit task release due ops) o ≡ reply → IsAccepted reply → IsTakenReply reply
taken_where start past task release due ops None reply is accepted = subst IsTakenReply is tt
taken_where start past task release due ops (Some refusal) reply is accepted = absurd (subst IsAccepted (sym is) accepted)

collected_where : (start : Start) (past : Log) (task release due : ℕ) (o : Option Refusal) (reply : Reply)
    → answer_by start past (Collect task release due) o ≡ reply → IsAccepted reply → IsTakenReply reply
collected_where start past task release due None reply is accepted = subst IsTakenReply is tt
collected_where start past task release due (Some refusal) reply is accepted = absurd (subst IsAccepted (sym is) accepted)

slot_where : (start : Start) (past : Log) (o : Option Refusal) (reply : Reply) → answer_by start past Slot o ≡ reply → IsAccepted reply
    → IsSlotReply reply
slot_where start past None reply is accepted = subst IsSlotReply is tt
slot_where start past (Some refusal) reply is accepted = absurd (subst IsAccepted (sym is) accepted)

pub submit_taken : (start : Start) (past : Log) (task release due : ℕ) (ops : List Op) (reply : Reply)
    → answer start past (Submit task release due ops) ≡ reply → IsAccepted reply → IsTakenReply reply
unfolding answer
submit_taken start past task release due ops reply is accepted = taken_where start past task release due ops
    (refusal_of start past (Submit task release due ops)) reply is accepted

pub collect_taken : (start : Start) (past : Log) (task release due : ℕ) (reply : Reply) → answer start past (Collect task release due)
    ≡ reply → IsAccepted reply → IsTakenReply reply
unfolding answer
collect_taken start past task release due reply is accepted = collected_where start past task release due
    (refusal_of start past (Collect task release due)) reply is accepted

pub slot_answered : (start : Start) (past : Log) (reply : Reply) → answer start past Slot ≡ reply → IsAccepted reply → IsSlotReply reply
unfolding answer
slot_answered start past reply is accepted = slot_where start past (refusal_of start past Slot) reply is accepted
