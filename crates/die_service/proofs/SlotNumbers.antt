-- The numbers of slots that are carried out.
use Rattle.std.proofs.Common.{◌≡◌, ℕ, ◌<◌, Bool, true, false, nat_le, Some, None, if◌then◌else◌, refl, ap, sym, ◌∙◌, arith}
use Rattle.std.specs.Prelude.{Result, Ok, Err, IfOk}
use Rattle.std.proofs.lemmas.Bool.{leb-false}
use Rattle.slot_types.specs.declared.limits.TheConstants.{MAX_SLOT}
use Rattle.slot_types.specs.declared.events.Event.TheVariants as events
use Rattle.slot_types.specs.declared.refusals.Refusal.{Refusal}
use Rattle.slot_types.specs.declared.refusals.Refusal.TheVariants.{ClockEnd}
use Rattle.slot_types.specs.declared.replies.Reply.TheVariants as replies
use Rattle.slot_types.specs.declared.replies.SlotReply.{SlotReply}
use Rattle.die_log.specs.Model.Answers.{answer, answer_by, choice}
use Rattle.die_log.specs.Model.Log.{Log, now}
use Rattle.die_log.specs.Model.Start.{Start}
use Rattle.die_log.proofs.Numbered.{slot_is}
use Rattle.slot_core.specs.Calls.{EndsCall, reply_as}
use Rattle.slot_core.specs.Core.{Core}

pub slot_below : (start : Start) (past : Log) (reply : SlotReply) → answer start past events.Slot ≡ replies.Slot reply → reply.slot
    < 1048576
unfolding answer
slot_below start past reply is = by (nat_le MAX_SLOT (now past)) refl is
  where
    same_slot : (a b : SlotReply) → replies.Slot a ≡ replies.Slot b → a ≡ b
    same_slot a b e = cc

    no_slot : (refusal : Refusal) (a : SlotReply) → replies.Refused refusal ≡ replies.Slot a → ⊥
    no_slot refusal a e = cc

    by : (b : Bool) → nat_le MAX_SLOT (now past) ≡ b → answer_by start past events.Slot (if b then Some ClockEnd else None)
        ≡ replies.Slot reply → reply.slot < 1048576
    by true e h = absurd (no_slot ClockEnd reply h)
    by false e h =
        let below = leb-false MAX_SLOT (now past) e in
        let is_now : reply.slot ≡ now past = ap (λ r. r.slot) (sym (same_slot _ reply h))
        ∙ slot_is start past (choice start past).waived (choice start past).head in
        omega (arith, below, is_now)

-- of a die that is asked without a lock
pub own_below : {N : Type 0} (caller : ℕ) (result : Result SlotReply Refusal) (before after : Core N)
    → EndsCall caller events.Slot (reply_as replies.Slot result) before after → IfOk result (λ reply. reply.slot < 1048576)
own_below caller (Ok reply) before after ended = slot_below before.start before.log reply ended.answered
own_below caller (Err refusal) before after ended = tt
